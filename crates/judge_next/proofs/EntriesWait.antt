-- No read waits exactly if none of the table's entries does.
use Prim.Native.Nat.{ℕ, ◌+◌, ◌*◌, ◌/◌, ◌%◌, ◌<◌}
use mathlib.Core.Path.{◌≡◌, refl, sym, ap, ◌∙◌}
use mathlib.Core.Bool.{Bool, true, false, not, ◌&&◌, true≢false}
use mathlib.Core.List.{List}
use native.Mathlib.Omega.{arith}
use borrow.Author.Tests.{eqb-true, not-true}
use lib.Dec.{eqb, ltb}
use lib.ListN.{length, get_or}
use Rattle.spec_file.proofs.DigitValues.{both}
use Rattle.spec_schedules.specs.Lists.{all, range}
use Rattle.spec_schedules.proofs.Lists.{in_range_lem, of_range, all_at, all_of}
use Rattle.machine.specs.declared.state.Machine.{Machine}
use Rattle.spec_sc.specs.State.{Event, State, thread_of}
use Rattle.spec_sc.specs.Graph.{Graph}
use Rattle.spec_judge.specs.Consistent.{row_of, Values}
use Rattle.spec_sc.specs.Same.{same_event}
use Rattle.spec_judge.proofs.Walk.{waits, none_waits}
use Rattle.graph_reader.specs.Held.{no_line, line_in}
use Rattle.judge_next.specs.HeldWalk.{waits_at, Drawn}
use Rattle.spec_sc.proofs.Same.{not_of}
use Rattle.graph_reader.proofs.TabledGraph.{line_of, of_line}

module _ (pairs places : List ℕ) (n : ℕ) (m : Machine) (g : Graph) (place : Values) (σ : State) (D : Drawn pairs places n m g place σ) (l u j t d : ℕ) where
  arranged : (a b c x y : Bool) → (a && (b && (c && (x && y)))) ≡ ((a && b) && (c && (y && x)))
  arranged false b c x y = refl
  arranged true false c x y = refl
  arranged true true false x y = refl
  arranged true true true true true = refl
  arranged true true true true false = refl
  arranged true true true false true = refl
  arranged true true true false false = refl

  -- an entry waits as its line does
  entry_waits : (v i : ℕ) → v < n → i < 16 → waits_at pairs places m (v * 16 + i) l u j t d ≡ waits place σ l (u, j) (t, d) v (i, line_in (row_of g v) i)
  unfolding waits same_event
  entry_waits v i a b =
      let e = D.sources v i a b in
      let q : (v * 16 + i) / 16 ≡ v = omega arith in
      let r : (v * 16 + i) % 16 ≡ i = omega arith in
      rw (e.0, e.1, D.places v i a b, q, r, sym (D.done v a))
      (arranged (eqb (line_in (row_of g v) i).0 u) (eqb (line_in (row_of g v) i).1 j) (eqb (place (v, i)) l) (not (ltb i (thread_of σ v).history.done)) (not (eqb v t && eqb i d)))

  -- some read waits
  pub one_waits : (k : ℕ) → k < 16 * n → (u ≡ 254 → ⊥) → waits_at pairs places m k l u j t d ≡ true → none_waits g place σ l (u, j) (t, d) ≡ false
  unfolding none_waits no_line
  one_waits k h mark w = go (none_waits g place σ l (u, j) (t, d)) refl
    where
      split : k / 16 * 16 + k % 16 ≡ k
      split = omega arith

      waiting : waits place σ l (u, j) (t, d) (k / 16) (k % 16, line_in (row_of g (k / 16)) (k % 16)) ≡ true
      waiting = sym (entry_waits (k / 16) (k % 16) (omega arith) (omega arith)) ∙ ap (λ (z : ℕ). waits_at pairs places m z l u j t d) split ∙ w

      source : (line_in (row_of g (k / 16)) (k % 16)).0 ≡ u
      source =
          let e = D.sources (k / 16) (k % 16) (omega arith) (omega arith) in
          let a = both (eqb (get_or pairs (k * 2) 0) u) _ w in
          sym e.0 ∙ ap (λ (z : ℕ). get_or pairs (z * 2) 0) split ∙ eqb-true (get_or pairs (k * 2) 0) u a.0

      go : (b : Bool) → none_waits g place σ l (u, j) (t, d) ≡ b → none_waits g place σ l (u, j) (t, d) ≡ false
      go false q = q
      go true q =
          let a = all_at (λ v. all (λ r. not (waits place σ l (u, j) (t, d) v r)) (row_of g v)) (range 0 (length g.reads)) (k / 16) q (in_range_lem 0 (length g.reads) (k / 16) (omega arith) (omega (arith, D.rows))) in
          let b = all_at (λ r. not (waits place σ l (u, j) (t, d) (k / 16) r)) (row_of g (k / 16)) (k % 16, line_in (row_of g (k / 16)) (k % 16)) a
          (of_line (row_of g (k / 16)) (k % 16) (λ z. mark (sym source ∙ ap (λ (x : Event). x.0) z))) in
          absurd (true≢false (sym waiting ∙ not-true _ b))

  -- no read waits
  pub no_one_waits : ((k : ℕ) → k < 16 * n → waits_at pairs places m k l u j t d ≡ false) → none_waits g place σ l (u, j) (t, d) ≡ true
  unfolding none_waits
  no_one_waits none = all_of (λ v. all (λ r. not (waits place σ l (u, j) (t, d) v r)) (row_of g v)) (range 0 (length g.reads))
      (λ v a. all_of (λ r. not (waits place σ l (u, j) (t, d) v r)) (row_of g v) (λ r b. not_of (waits place σ l (u, j) (t, d) v r) (λ w.
      let s : r.0 < 16 = D.small v r b in
      let c = of_range 0 (length g.reads) v a in
      let z = D.rows in
      let e : line_in (row_of g v) r.0 ≡ r.1 = line_of (row_of g v) (D.ordered v) r.0 r.1 b in
      true≢false (sym w ∙ sym (entry_waits v r.0 (omega (arith, c.1)) s ∙ ap (λ (x : Event). waits place σ l (u, j) (t, d) v (r.0, x)) e) ∙ none (v * 16 + r.0) (omega (arith, c.1))))))
