-- A table tells graphs apart: two readable graphs that one table holds are the same, if their lists have at most 24 writes.
use Prim.Native.Nat.{ℕ, ◌<◌, ◌≤◌}
use mathlib.Core.Path.{◌≡◌, refl, sym, ap, ap₂, subst, ◌∙◌}
use mathlib.Core.Logic.{◌≢◌, inl, inr, ⊎_elim}
use mathlib.Core.Bool.{Bool, true, false, cond}
use mathlib.Core.List.Memᴰ
use mathlib.Core.List.{List, [], ◌∷◌, reverse, reverse-reverse, Memᴰ}
use native.Mathlib.Omega.{arith}
use borrow.Author.Tests.{eq-eqb, ne_eqb, eqb-true, lt-ltb, le-ltb, ltb-true}
use lib.Dec.{eqb, ltb}
use lib.ListN.{get_or, length-reverse}
use lib.Seq.{ext_get_or}
use Rattle.spec_schedules.specs.Lists.{any}
use Rattle.spec_file.specs.Lists.{Ascends}
use Rattle.spec_schedules.proofs.Lists.{any_yes, any_of, ascends_unique}
use Rattle.spec_sc.specs.State.{Event, initial_write}
use Rattle.spec_sc.specs.Graph.{Graph}
use Rattle.spec_judge.specs.Consistent.{row_of, order_of, Descends}
use Rattle.spec_sc.specs.Same.{same_event, same_read}
use Rattle.graph_reader.specs.Held.{no_line, line_in, Tabled}
use Rattle.spec_sc.proofs.Same.{same_event_is, is_same_event, same_read_is, same_read_lem}
use Rattle.spec_judge.proofs.Readable.{Source, Readable}

-- ---- a row and its lines
-- a line of a row is what the row gives to its access
pub line_of : (rs : List (ℕ × Event)) → Descends rs → (i : ℕ) (s : Event) → Memᴰ (i, s) rs → line_in rs i ≡ s
unfolding line_in
line_of [] d i s m = absurd (Memᴰ.not-nil m)
line_of (r ∷ rs) d i s m = ⊎_elim
    (λ (q : (i, s) ≡ r). ap (λ (b : Bool). cond b r.1 (line_in rs i)) (eq-eqb r.0 i (sym (ap (λ (x : ℕ × Event). x.0) q))) ∙ sym (ap (λ (x : ℕ × Event). x.1) q))
    (λ (k : Memᴰ (i, s) rs). ap (λ (b : Bool). cond b r.1 (line_in rs i)) (ne_eqb r.0 i (λ q. let l = d.0 (i, s) k in omega arith)) ∙ line_of rs d.1 i s k)
    (Memᴰ.cases_cons m)

-- what a row gives is one of its lines
pub of_line : (rs : List (ℕ × Event)) (i : ℕ) → line_in rs i ≢ no_line → Memᴰ (i, line_in rs i) rs
unfolding line_in
of_line [] i n = absurd (n refl)
of_line (r ∷ rs) i n = go (eqb r.0 i) refl (of_line rs i)
  where
    go : (b : Bool) → eqb r.0 i ≡ b → (line_in rs i ≢ no_line → Memᴰ (i, line_in rs i) rs) → Memᴰ (i, line_in (r ∷ rs) i) (r ∷ rs)
    go true q ih = rw q (Memᴰ.head (ap (λ (k : ℕ). let x : ℕ × Event = (k, r.1) in x) (sym (eqb-true r.0 i q))))
    go false q ih = rw q (Memᴰ.tail (ih (λ e. n (ap (λ (b : Bool). cond b r.1 (line_in rs i)) q ∙ e))))

-- no source is the mark
pub not_mark : (n : ℕ) → n ≤ 6 → (s : Event) → Source n s → s ≢ no_line
unfolding no_line initial_write
not_mark n few s (inl q) e = let z : ◌≡◌ {A = ℕ} 255 254 = ap (λ (x : Event). x.0) (sym q ∙ e) in omega arith
not_mark n few s (inr h) e = let z : s.0 ≡ 254 = ap (λ (x : Event). x.0) e in let a = h.0 in omega arith

-- ---- two rows with the same lines
abbrev later : ℕ × Event → ℕ × Event → Bool
later x y = ltb y.0 x.0

descends_ascends : (rs : List (ℕ × Event)) → Descends rs → Ascends later rs
descends_ascends [] d = tt
descends_ascends (r ∷ rs) d = ((λ y m. lt-ltb y.0 r.0 (d.0 y m)), descends_ascends rs d.1)

later_self : (x : ℕ × Event) → later x x ≡ false
later_self x = le-ltb x.0 x.0 (omega arith)

later_one_way : (x y : ℕ × Event) → later x y ≡ true → later y x ≡ false
later_one_way x y e = let l = ltb-true y.0 x.0 e in le-ltb x.0 y.0 (omega arith)

module _ (n : ℕ) (few : n ≤ 6) where
  carried : (g h : Graph) → Readable n g → Readable n h → (t : ℕ) → ((i : ℕ) → i < 16 → line_in (row_of g t) i ≡ line_in (row_of h t) i) →
      (x : ℕ × Event) → Memᴰ x (row_of g t) → Memᴰ x (row_of h t)
  carried g h G H t same x m =
      let k = G.reads t x m in
      let e : line_in (row_of h t) x.0 ≡ x.1 = sym (same x.0 (omega (arith, k.0))) ∙ line_of (row_of g t) (G.ordered t) x.0 x.1 m in
      subst (λ (s : Event). Memᴰ (x.0, s) (row_of h t)) e (of_line (row_of h t) x.0 (λ q. not_mark n few x.1 k.1 (sym e ∙ q)))

  module _ (g h : Graph) (G : Readable n g) (H : Readable n h) where
    row_same : (t : ℕ) → ((i : ℕ) → i < 16 → line_in (row_of g t) i ≡ line_in (row_of h t) i) → row_of g t ≡ row_of h t
    row_same t same = ascends_unique later later_self later_one_way (row_of g t) (row_of h t) (descends_ascends (row_of g t) (G.ordered t)) (descends_ascends (row_of h t) (H.ordered t))
        (carried g h G H t same) (carried h g H G t (λ i l. sym (same i l)))

    module _ (pairs counts : List ℕ) (T : Tabled pairs counts g) (S : Tabled pairs counts h) (short : (l : ℕ) → l < 8 → get_or counts l 0 ≤ 24) where
      abbrev pair : ℕ → ℕ → Event
      pair x y = (x, y)

      order_same : (l : ℕ) → l < 8 → order_of g l ≡ order_of h l
      order_same l a =
          let c = T.counts l a in
          let d = S.counts l a in
          let p = length-reverse (order_of g l) in
          let q = length-reverse (order_of h l) in
          let e : reverse (order_of g l) ≡ reverse (order_of h l) = ext_get_or no_line (reverse (order_of g l)) (reverse (order_of h l)) (omega arith)
          (λ k j.
          let small : k < 24 = omega (arith, short l a) in
          let x = T.orders l k a small in
          let y = S.orders l k a small in
          ap₂ pair (sym x.0 ∙ y.0) (sym x.1 ∙ y.1)) in
          sym (reverse-reverse (order_of g l)) ∙ ap reverse e ∙ reverse-reverse (order_of h l)

      -- ONE TABLE, ONE GRAPH
      pub tabled_same : g ≡ h
      tabled_same =
          let a = G.rows in
          let b = H.rows in
          let c = G.lists in
          let d = H.lists in
          ap₂ (λ (rs : List (List (ℕ × Event))) (ws : List (List Event)). let k : Graph = record { reads = rs; writes = ws } in k)
          (ext_get_or [] g.reads h.reads (omega arith) (λ t l. row_same t (λ i k.
          let x = T.sources t i (omega arith) k in
          let y = S.sources t i (omega arith) k in
          ap₂ pair (sym x.0 ∙ y.0) (sym x.1 ∙ y.1))))
          (ext_get_or [] g.writes h.writes (omega arith) (λ l k. order_same l (omega arith)))

-- ---- the test of a read: the row has this line exactly if the table's entry is this source
pub read_test : (rs : List (ℕ × Event)) → Descends rs → (i : ℕ) (s : Event) → s ≢ no_line → any (λ r. same_read r (i, s)) rs ≡ same_event (line_in rs i) s
read_test rs d i s n = go (any (λ r. same_read r (i, s)) rs) (same_event (line_in rs i) s) refl refl
  where
    has : same_event (line_in rs i) s ≡ true → any (λ r. same_read r (i, s)) rs ≡ true
    has e =
        let q = same_event_is (line_in rs i) s e in
        any_of (λ r. same_read r (i, s)) rs (i, s) (subst (λ (x : Event). Memᴰ (i, x) rs) q (of_line rs i (λ z. n (sym q ∙ z)))) (same_read_lem (i, s))

    go : (a b : Bool) → any (λ r. same_read r (i, s)) rs ≡ a → same_event (line_in rs i) s ≡ b → any (λ r. same_read r (i, s)) rs ≡ same_event (line_in rs i) s
    go true b p q =
        let r = any_yes (λ r. same_read r (i, s)) rs p in
        p ∙ sym (is_same_event (line_in rs i) s (line_of rs d i s (subst (λ (x : ℕ × Event). Memᴰ x rs) (same_read_is r.0 (i, s) r.2) r.1)))
    go false true p q = has q ∙ sym q
    go false false p q = p ∙ sym q
