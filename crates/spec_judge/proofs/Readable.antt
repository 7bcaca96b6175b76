-- The graphs that texts can give: in range, in order, nothing twice. What the tests of a line say of them, both ways.
use Prim.Native.Nat.{ℕ, zero, suc, ◌<◌, ◌≤◌}
use mathlib.Core.Path.{◌≡◌, refl, sym, subst, ◌∙◌}
use mathlib.Core.Logic.{◌⊎◌, inl, inr, ⊎_elim}
use mathlib.Core.Bool.{Bool, true, false, not, ◌&&◌, ◌||◌, true≢false}
use mathlib.Core.List.Memᴰ
use mathlib.Core.List.{List, [], ◌∷◌, reverse, reverse_aux, Memᴰ}
use borrow.Author.Tests.{ltb-true, lt-ltb, leb-true, le-leb, not-true}
use lib.Dec.{ltb, leb}
use lib.ListN.{length, get_or}
use Rattle.spec_file.specs.Program.{Program}
use Rattle.spec_file.proofs.DigitValues.{both}
use Rattle.spec_schedules.specs.Lists.{any}
use Rattle.spec_schedules.proofs.Lists.{any_yes, any_of}
use Rattle.spec_sc.specs.State.{Event, initial_write}
use Rattle.spec_sc.specs.Graph.{Graph}
use Rattle.spec_judge.specs.Consistent.{row_of, order_of, Descends, Canonical}
use Rattle.spec_schedules.specs.Lists.{Distinct}
use Rattle.spec_sc.specs.Same.{same_event}
use Rattle.spec_judge.specs.Reading.{is_event, is_source, written, all_new}
use Rattle.spec_sc.proofs.Same.{both_and, not_of, same_event_is, is_same_event}

-- an event, and a source, that a text of n threads may name
abbrev pub Named : ℕ → Event → Type 0
Named n e = (e.0 < n) × (e.1 ≤ 15)

abbrev pub Source : ℕ → Event → Type 0
Source n e = (e ≡ initial_write) ⊎ Named n e

pub record Readable (n : ℕ) (g : Graph) : Type 0 where
  pub rows : length g.reads ≡ n
  pub lists : length g.writes ≡ 8
  pub ordered : (t : ℕ) → Descends (row_of g t)
  pub once : (l : ℕ) → Distinct (order_of g l)
  -- no event in two lists
  pub apart : (l k : ℕ) (e : Event) → Memᴰ e (order_of g l) → Memᴰ e (order_of g k) → l ≡ k
  pub reads : (t : ℕ) (r : ℕ × Event) → Memᴰ r (row_of g t) → (r.0 ≤ 15) × Source n r.1
  pub writes : (l : ℕ) (e : Event) → Memᴰ e (order_of g l) → Named n e

pub readable_canonical : (p : Program) (g : Graph) → Readable (length p.threads) g → Canonical p g
readable_canonical p g R = record { rows = R.rows; lists = R.lists; ordered = R.ordered; once = R.once }

module _ (n : ℕ) where
  pub event_is : (e : Event) → is_event n e ≡ true → Named n e
  unfolding is_event
  event_is e h = let r = both (ltb e.0 n) (leb e.1 15) h in (ltb-true e.0 n r.0, leb-true e.1 15 r.1)

  pub is_event_lem : (e : Event) → Named n e → is_event n e ≡ true
  unfolding is_event
  is_event_lem e h = both_and (lt-ltb e.0 n h.0) (le-leb e.1 15 h.1)

  pub source_is : (e : Event) → is_source n e ≡ true → Source n e
  unfolding is_source
  source_is e h = go (same_event e initial_write) refl
    where
      go : (b : Bool) → same_event e initial_write ≡ b → Source n e
      go true q = inl (same_event_is e initial_write q)
      go false q = inr (event_is e (rw q at h))

  pub is_source_lem : (e : Event) → Source n e → is_source n e ≡ true
  unfolding is_source
  is_source_lem e (inl q) = rw (is_same_event e initial_write q)
  is_source_lem e (inr h) = go (same_event e initial_write) (is_event_lem e h)
    where
      go : (b : Bool) → is_event n e ≡ true → b || is_event n e ≡ true
      go true q = refl
      go false q = q

-- an event stands in no list
abbrev pub Unwritten : List (List Event) → Event → Type 0
Unwritten rows e = (l : ℕ) → Memᴰ e (get_or rows l []) → ⊥

in_rows : (rows : List (List Event)) (l : ℕ) (e : Event) → Memᴰ e (get_or rows l []) → Memᴰ (get_or rows l []) rows
in_rows [] l e m = absurd (Memᴰ.not-nil m)
in_rows (w ∷ rows) zero e m = Memᴰ.head refl
in_rows (w ∷ rows) (suc l) e m = Memᴰ.tail (in_rows rows l e m)

of_rows : (rows : List (List Event)) (w : List Event) → Memᴰ w rows → (l : ℕ) × (get_or rows l [] ≡ w)
of_rows [] w m = absurd (Memᴰ.not-nil m)
of_rows (x ∷ rows) w m = ⊎_elim (λ (q : w ≡ x). (0, sym q)) (λ (k : Memᴰ w rows). let r = of_rows rows w k in (suc r.0, r.1)) (Memᴰ.cases_cons m)

any_same : (e : Event) (ws : List Event) → Memᴰ e ws → any (same_event e) ws ≡ true
any_same e ws m = any_of (same_event e) ws e m (is_same_event e e refl)

same_any : (e : Event) (ws : List Event) → any (same_event e) ws ≡ true → Memᴰ e ws
same_any e ws h = let r = any_yes (same_event e) ws h in subst (λ (x : Event). Memᴰ x ws) (sym (same_event_is e r.0 r.2)) r.1

unwritten_is : (rows : List (List Event)) (e : Event) → not (written e rows) ≡ true → Unwritten rows e
unfolding written
unwritten_is rows e h l m = true≢false
    (sym (any_of (λ ws. any (same_event e) ws) rows (get_or rows l []) (in_rows rows l e m) (any_same e (get_or rows l []) m)) ∙ not-true (written e rows) h)

is_unwritten : (rows : List (List Event)) (e : Event) → Unwritten rows e → not (written e rows) ≡ true
unfolding written
is_unwritten rows e u = not_of (written e rows) (λ h.
    let r = any_yes (λ ws. any (same_event e) ws) rows h in
    let k = of_rows rows r.0 r.1 in
    u k.0 (subst (Memᴰ e) (sym k.1) (same_any e r.0 r.2)))

pub new_is : (rows : List (List Event)) (es : List Event) → all_new rows es ≡ true → Distinct es × ((e : Event) → Memᴰ e es → Unwritten rows e)
unfolding all_new
new_is rows [] h = (tt, λ e m. absurd (Memᴰ.not-nil m))
new_is rows (x ∷ es) h =
    let a = both (not (written x rows)) (not (any (same_event x) es) && all_new rows es) h in
    let b = both (not (any (same_event x) es)) (all_new rows es) a.1 in
    let r = new_is rows es b.1 in (
      ((λ m. true≢false (sym (any_same x es m) ∙ not-true (any (same_event x) es) b.0)), r.0),
      λ e m. ⊎_elim (λ (q : e ≡ x). subst (Unwritten rows) (sym q) (unwritten_is rows x a.0)) (λ (k : Memᴰ e es). r.1 e k) (Memᴰ.cases_cons m),
    )

pub is_new : (rows : List (List Event)) (es : List Event) → Distinct es → ((e : Event) → Memᴰ e es → Unwritten rows e) → all_new rows es ≡ true
unfolding all_new
is_new rows [] d u = refl
is_new rows (x ∷ es) d u = both_and (is_unwritten rows x (u x (Memᴰ.head refl)))
    (both_and (not_of (any (same_event x) es) (λ h. d.0 (same_any x es h))) (is_new rows es d.1 (λ e m. u e (Memᴰ.tail m))))

-- a list turned round has the same members, and nothing twice if it had nothing twice
reversed : {A : Type 0} (l r : List A) (x : A) → Memᴰ x (reverse_aux l r) → Memᴰ x l ⊎ Memᴰ x r
reversed [] r x m = inr m
reversed (y ∷ l) r x m = ⊎_elim (λ (k : Memᴰ x l). inl (Memᴰ.tail k))
    (λ (k : Memᴰ x (y ∷ r)). ⊎_elim (λ (q : x ≡ y). inl (Memᴰ.head q)) (λ (j : Memᴰ x r). inr j) (Memᴰ.cases_cons k)) (reversed l (y ∷ r) x m)

pub reverse_in : {A : Type 0} (l : List A) (x : A) → Memᴰ x (reverse l) → Memᴰ x l
reverse_in l x m = ⊎_elim (λ (k : Memᴰ x l). k) (λ (k : Memᴰ x []). absurd (Memᴰ.not-nil k)) (reversed l [] x m)

distinct_reverse_onto : (l r : List Event) → Distinct l → Distinct r → ((x : Event) → Memᴰ x l → Memᴰ x r → ⊥) → Distinct (reverse_aux l r)
distinct_reverse_onto [] r d e n = e
distinct_reverse_onto (y ∷ l) r d e n = distinct_reverse_onto l (y ∷ r) d.1 ((λ m. n y (Memᴰ.head refl) m), e)
    (λ x m k. ⊎_elim (λ (q : x ≡ y). d.0 (subst (λ (z : Event). Memᴰ z l) q m)) (λ (j : Memᴰ x r). n x (Memᴰ.tail m) j) (Memᴰ.cases_cons k))

pub distinct_reverse : (l : List Event) → Distinct l → Distinct (reverse l)
distinct_reverse l d = distinct_reverse_onto l [] d tt (λ x m k. Memᴰ.not-nil k)
