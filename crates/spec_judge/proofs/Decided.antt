-- The four orders are decided: whether one event stands before another can be found out.
use Prim.Native.Nat.{ℕ, ◌<◌}
use mathlib.Core.Path.{◌≡◌, refl, subst}
use mathlib.Core.Logic.Dec
use mathlib.Core.Logic.{◌≢◌, ◌⊎◌, inl, inr, ⊎_elim}
use mathlib.Core.HLevel.{×_discrete}
use mathlib.Core.List.Memᴰ
use mathlib.Core.List.{List, [], ◌∷◌, Memᴰ}
use native.Mathlib.Omega.{arith}
use native.Mathlib.Decide.{ℕ_discrete, dec_lt, map_dec}
use lib.ListN.{length, get_or-eq_default}
use Rattle.spec_file.specs.Program.{Program}
use Rattle.spec_schedules.specs.Lists.{range}
use Rattle.spec_schedules.proofs.Lists.{in_range_lem}
use Rattle.spec_sc.specs.State.{Event, initial_write}
use Rattle.spec_sc.specs.Graph.{Graph}
use Rattle.spec_judge.specs.Consistent.{row_of, order_of, coherence_of, ReadsFrom, Later, Values, location_of, Before, program_order, reads_from, coherence, from_reads}

pub same_event : (a b : Event) → Dec (a ≡ b)
same_event = ×_discrete ℕ_discrete ℕ_discrete

module _ {A : Type 0} where
  -- some member of a list
  pub dec_some : (P : A → Type 0) → ((x : A) → Dec (P x)) → (l : List A) → Dec ((x : A) × Memᴰ x l × P x)
  dec_some P d [] = no (λ k. Memᴰ.not-nil k.1)
  dec_some P d (x ∷ l) = go (d x) (dec_some P d l)
    where
      go : Dec (P x) → Dec ((y : A) × Memᴰ y l × P y) → Dec ((y : A) × Memᴰ y (x ∷ l) × P y)
      go (yes h) e = yes (x, Memᴰ.head refl, h)
      go (no h) (yes k) = yes (k.0, Memᴰ.tail k.1, k.2)
      go (no h) (no k) = no (λ j. ⊎_elim (λ (q : j.0 ≡ x). h (subst P q j.2)) (λ (m : Memᴰ j.0 l). k (j.0, m, j.2)) (Memᴰ.cases_cons j.1))

dec_or : {A B : Type 0} → Dec A → Dec B → Dec (A ⊎ B)
dec_or (yes a) e = yes (inl a)
dec_or (no a) (yes b) = yes (inr b)
dec_or (no a) (no b) = no (λ k. ⊎_elim a b k)

dec_not : {A : Type 0} → Dec A → Dec (A → ⊥)
dec_not (yes a) = no (λ n. n a)
dec_not (no n) = yes n

dec_in : (x : Event) (l : List Event) → Dec (Memᴰ x l)
dec_in x l = map_dec (λ k. subst (λ (y : Event). Memᴰ y l) k.2 k.1) (λ m. (x, m, refl)) (dec_some (λ y. y ≡ x) (λ y. same_event y x) l)

dec_later : (ws : List Event) (y x : Event) → Dec (Later ws y x)
dec_later [] y x = no (λ k. k)
dec_later (w ∷ ws) y x = dec_or (Dec.and (same_event y w) (dec_in x ws)) (dec_later ws y x)

module _ (p : Program) (g : Graph) (v : Values) (x y : Event) where
  abbrev B : Type 0
  B = Before p g v x y

  abbrev InList : Type 0
  InList = (l : ℕ) × Memᴰ l (range 0 (length g.writes)) × Later (order_of g l) y x

  abbrev After : Type 0
  After = (r : ℕ × Event) × Memᴰ r (row_of g x.0) × ((r.0 ≡ x.1) × Later (coherence_of g (location_of p v x)) y r.1)

  -- a list that is not there is empty
  listed : (l : ℕ) → Later (order_of g l) y x → Memᴰ l (range 0 (length g.writes))
  listed l f = go (dec_lt l (length g.writes))
    where
      go : Dec (l < length g.writes) → Memᴰ l (range 0 (length g.writes))
      go (yes h) = in_range_lem 0 (length g.writes) l (omega arith) (omega arith)
      go (no h) = absurd (subst (λ (ws : List Event). Later ws y x) (get_or-eq_default g.writes [] {n = l} (omega arith)) f)

  by_program : Dec ((x.0 ≡ y.0) × (x.1 < y.1))
  by_program = Dec.and (ℕ_discrete x.0 y.0) (dec_lt x.1 y.1)

  by_source : Dec (ReadsFrom g y x × (x ≢ initial_write))
  by_source = Dec.and (map_dec (λ k. subst (λ (r : ℕ × Event). Memᴰ r (row_of g y.0)) k.2 k.1) (λ m. ((y.1, x), m, refl))
      (dec_some (λ r. ◌≡◌ {A = ℕ × Event} r (y.1, x)) (λ r. ×_discrete ℕ_discrete same_event r (y.1, x)) (row_of g y.0))) (dec_not (same_event x initial_write))

  by_coherence : Dec InList
  by_coherence = dec_some (λ l. Later (order_of g l) y x) (λ l. dec_later (order_of g l) y x) (range 0 (length g.writes))

  by_from_reads : Dec (After × (x ≢ y))
  by_from_reads = Dec.and (dec_some (λ r. (r.0 ≡ x.1) × Later (coherence_of g (location_of p v x)) y r.1)
      (λ r. Dec.and (ℕ_discrete r.0 x.1) (dec_later (coherence_of g (location_of p v x)) y r.1)) (row_of g x.0)) (dec_not (same_event x y))

  abbrev Cases : Type 0
  Cases = ((x.0 ≡ y.0) × (x.1 < y.1)) ⊎ ((ReadsFrom g y x × (x ≢ initial_write)) ⊎ (InList ⊎ (After × (x ≢ y))))

  of_cases : Cases → B
  of_cases (inl h) = program_order h.0 h.1
  of_cases (inr (inl h)) = reads_from h.0 h.1
  of_cases (inr (inr (inl h))) = coherence h.0 h.2
  of_cases (inr (inr (inr h))) = from_reads h.0.0.1 (subst (λ (i : ℕ). Memᴰ (i, h.0.0.1) (row_of g x.0)) h.0.2.0 h.0.1) h.0.2.1 h.1

  to_cases : B → Cases
  to_cases (program_order e h) = inl (e, h)
  to_cases (reads_from r n) = inr (inl (r, n))
  to_cases (coherence l f) = inr (inr (inl (l, listed l f, f)))
  to_cases (from_reads s r f n) = inr (inr (inr (((x.1, s), r, (refl, f)), n)))

  pub decided : Dec B
  decided = map_dec of_cases to_cases (dec_or by_program (dec_or by_source (dec_or by_coherence by_from_reads)))
