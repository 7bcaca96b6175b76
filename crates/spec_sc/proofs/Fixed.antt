-- GRAPHS THAT AN EXCHANGE LEAVES THE SAME: exactly those in which each thread that it moves wrote nothing and goes to one that wrote nothing
-- and read the same. Coherence names every writer, so that none of them moves; what reads take from them stays.
use Prim.Native.Nat.{ℕ, ◌<◌, ◌≤◌}
use native.Mathlib.Omega.{arith}
use native.Mathlib.Decide.{ℕ_discrete, dec_lt}
use mathlib.Core.Path.{◌≡◌, refl, sym, ap, ap₂, subst, ◌∙◌}
use mathlib.Core.Logic.{◌⊎◌, inl, inr, ⊎_elim}
use mathlib.Core.List.Memᴰ
use mathlib.Core.List.{List, [], ◌∷◌, map, Memᴰ}
use lib.ListN.{length, get_or, length-map, get_or-map}
use lib.Seq.{ext_get_or}
use Rattle.spec_sc.specs.State.{Event, initial_write}
use Rattle.spec_sc.specs.Graph.{Graph}
use Rattle.spec_model.specs.Exchange.{Permutation}
use Rattle.spec_sc.specs.Exchange.{moved_event, moved_read, moved_reads, moved_writes, Renames}

-- a list is unchanged exactly if its members are
map_unchanged : {A : Type 0} (f : A → A) (l : List A) → ((x : A) → Memᴰ x l → f x ≡ x) → map f l ≡ l
map_unchanged f [] h = refl
map_unchanged {A} f (x ∷ l) h = ap₂ (λ (y : A) (ys : List A). y ∷ ys) (h x (Memᴰ.head refl)) (map_unchanged f l (λ y m. h y (Memᴰ.tail m)))

unchanged_map : {A : Type 0} (f : A → A) (l : List A) → map f l ≡ l → (x : A) → Memᴰ x l → f x ≡ x
unchanged_map f [] e x m = absurd (Memᴰ.not-nil m)
unchanged_map {A} f (y ∷ l) e x m = go (Memᴰ.cases_cons m) (unchanged_map f l rest x)
  where
    first : f y ≡ y
    first = cc

    rest : map f l ≡ l
    rest = cc

    go : (x ≡ y) ⊎ Memᴰ x l → (Memᴰ x l → f x ≡ x) → f x ≡ x
    go (inl q) ih = ap f q ∙ first ∙ sym q
    go (inr k) ih = ih k

-- thread t wrote in this graph
abbrev pub Wrote : Graph → ℕ → Type 0
Wrote g t = (l : ℕ) × (i : ℕ) × Memᴰ (t, i) (get_or g.writes l [])

-- each read takes from the initial write or from one that stands in coherence
abbrev pub Sourced : Graph → Type 0
Sourced g = (t : ℕ) (r : ℕ × Event) → Memᴰ r (get_or g.reads t []) → (r.1 ≡ initial_write) ⊎ ((l : ℕ) × Memᴰ r.1 (get_or g.writes l []))

-- moving t to u leaves the graph the same as far as t is concerned
abbrev pub Unmoved : Graph → ℕ → ℕ → Type 0
Unmoved g t u = (u ≡ t) ⊎ ((Wrote g t → ⊥) × (Wrote g u → ⊥) × (get_or g.reads u [] ≡ get_or g.reads t []))

module _ (π : ℕ → ℕ) (q : Permutation π) (g : Graph) (sourced : Sourced g) where
  -- where no writer moves, no write and no source changes
  module _ (fixed : (t : ℕ) → Wrote g t → π t ≡ t) where
    event_stays : (l : ℕ) (e : Event) → Memᴰ e (get_or g.writes l []) → moved_event π e ≡ e
    unfolding moved_event
    event_stays l e m = ap (λ (t : ℕ). let z : Event = (t, e.1) in z) (fixed e.0 (l, e.1, m))

    source_stays : (e : Event) → (e ≡ initial_write) ⊎ ((l : ℕ) × Memᴰ e (get_or g.writes l [])) → moved_event π e ≡ e
    unfolding moved_event initial_write
    source_stays e (inl i) = let k : e.0 ≡ 255 = ap (λ (x : Event). x.0) i in ap (λ (t : ℕ). let z : Event = (t, e.1) in z) (ap π k ∙ q.stays 255 (omega arith) ∙ sym k)
    source_stays e (inr w) = event_stays w.0 e w.1

    reads_stay : (t : ℕ) → moved_reads π (get_or g.reads t []) ≡ get_or g.reads t []
    unfolding moved_reads moved_read
    reads_stay t = map_unchanged (moved_read π) (get_or g.reads t []) (λ r m. ap (λ (e : Event). let z : ℕ × Event = (r.0, e) in z) (source_stays r.1 (sourced t r m)))

    writes_stay : map (moved_writes π) g.writes ≡ g.writes
    unfolding moved_writes
    writes_stay = ext_get_or [] (map (moved_writes π) g.writes) g.writes (length-map g.writes (moved_writes π))
        (λ l h. get_or-map (moved_writes π) g.writes l [] ∙ map_unchanged (moved_event π) (get_or g.writes l []) (λ e m. event_stays l e m))

  -- a graph that is left the same: no writer moves
  writer_stays : Renames π g g → (t : ℕ) → Wrote g t → π t ≡ t
  unfolding moved_writes moved_event
  writer_stays r t w =
      let row : map (moved_event π) (get_or g.writes w.0 []) ≡ get_or g.writes w.0 [] =
      sym (get_or-map (moved_writes π) g.writes w.0 []) ∙ ap (λ (ws : List (List Event)). get_or ws w.0 []) (sym r.writes) in
      ap (λ (e : Event). e.0) (unchanged_map (moved_event π) (get_or g.writes w.0 []) row (t, w.1) w.2)

  pub fixed_unmoved : Renames π g g → (t : ℕ) → t < length g.reads → Unmoved g t (π t)
  fixed_unmoved r t h = go (ℕ_discrete (π t) t)
    where
      go : Dec (π t ≡ t) → Unmoved g t (π t)
      go (yes e) = inl e
      go (no ne) = inr (
        (λ w. ne (writer_stays r t w)),
        (λ w. ne (sym (q.inverse_after (π t)) ∙ ap q.inverse (writer_stays r (π t) w) ∙ q.inverse_after t)),
        r.reads t h ∙ reads_stay (writer_stays r) t,
      )

  pub unmoved_fixed : ((t : ℕ) → t < 6 → Unmoved g t (π t)) → Renames π g g
  unmoved_fixed h = record { reads = λ t i. row t (at t); writes = sym (writes_stay still) }
    where
      at : (t : ℕ) → Unmoved g t (π t)
      at t = low (dec_lt t 6)
        where
          low : Dec (t < 6) → Unmoved g t (π t)
          low (yes k) = h t k
          low (no k) = inl (q.stays t (omega arith))

      still : (t : ℕ) → Wrote g t → π t ≡ t
      still t w = ⊎_elim (λ (e : π t ≡ t). e) (λ (k : (Wrote g t → ⊥) × (Wrote g (π t) → ⊥) × (get_or g.reads (π t) [] ≡ get_or g.reads t [])). absurd (k.0 w)) (at t)

      row : (t : ℕ) → Unmoved g t (π t) → get_or g.reads (π t) [] ≡ moved_reads π (get_or g.reads t [])
      row t (inl e) = ap (λ (u : ℕ). get_or g.reads u []) e ∙ sym (reads_stay still t)
      row t (inr k) = k.2 ∙ sym (reads_stay still t)
