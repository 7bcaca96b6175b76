-- A list whose values are chosen one after the other: each as it was, or v where k names it.
use Prim.Native.Nat.{ℕ, ◌+◌, ◌<◌, ◌≤◌}
use native.Mathlib.Omega.{arith}
use native.Mathlib.Decide.{dec_lt, ℕ_discrete}
use mathlib.Core.Path.{◌≡◌, sym, ap, ◌∙◌}
use mathlib.Core.Logic.{◌≢◌}
use mathlib.Core.Bool.{Bool, cond}
use mathlib.Core.List.{List}
use lib.Dec.{eqb, ltb}
use lib.ListN.{length, get_or, set}
use lib.Seq.{get_or-set_other, set-get_or, set_out}
use borrow.Author.Tests.{lt-ltb, le-ltb, eq-eqb, ne_eqb}

module _ {A : Type 0} (l : List A) (k : ℕ) (v : A) where
  -- the first i have been chosen
  abbrev pub chosen : ℕ → List A
  chosen i = cond (ltb k i) (set l k v) l

  -- v at k is among them, or not
  chosen_in : (i : ℕ) → k < i → chosen i ≡ set l k v
  chosen_in i h = ap (λ (b : Bool). cond b (set l k v) l) (lt-ltb k i h)

  chosen_out : (i : ℕ) → i ≤ k → chosen i ≡ l
  chosen_out i h = ap (λ (b : Bool). cond b (set l k v) l) (le-ltb k i h)

  pub chosen_none : l ≡ chosen 0
  chosen_none = sym (chosen_out 0 (omega arith))

  -- all have
  pub chosen_all : (i : ℕ) → length l ≤ i → chosen i ≡ set l k v
  chosen_all i h = go (dec_lt k i)
    where
      go : Dec (k < i) → chosen i ≡ set l k v
      go (yes b) = chosen_in i b
      go (no b) = chosen_out i (omega (arith, b)) ∙ sym (set_out l k v (omega (arith, h, b)))

  -- one more
  pub chosen_more : (i : ℕ) (d : A) → set (chosen i) i (cond (eqb k i) v (get_or l i d)) ≡ chosen (i + 1)
  chosen_more i d = go (dec_lt k i) (ℕ_discrete k i)
    where
      kept : k ≢ i → (a : List A) → set a i (cond (eqb k i) v (get_or l i d)) ≡ set a i (get_or l i d)
      kept n a = ap (λ (b : Bool). set a i (cond b v (get_or l i d))) (ne_eqb k i n)

      go : Dec (k < i) → Dec (k ≡ i) → set (chosen i) i (cond (eqb k i) v (get_or l i d)) ≡ chosen (i + 1)
      go (yes h) e =
          let n : k ≢ i = λ q. omega (arith, h, q) in
          ap (λ (a : List A). set a i (cond (eqb k i) v (get_or l i d))) (chosen_in i h) ∙ kept n (set l k v)
          ∙ ap (set (set l k v) i) (sym (get_or-set_other l k i v d (λ q. n (sym q)))) ∙ set-get_or (set l k v) i d ∙ sym (chosen_in (i + 1) (omega (arith, h)))
      go (no h) (yes e) =
          ap (λ (a : List A). set a i (cond (eqb k i) v (get_or l i d))) (chosen_out i (omega (arith, h)))
          ∙ ap (λ (b : Bool). set l i (cond b v (get_or l i d))) (eq-eqb k i e) ∙ ap (λ (j : ℕ). set l j v) (sym e) ∙ sym (chosen_in (i + 1) (omega (arith, e)))
      go (no h) (no n) =
          ap (λ (a : List A). set a i (cond (eqb k i) v (get_or l i d))) (chosen_out i (omega (arith, h)))
          ∙ kept n l ∙ set-get_or l i d ∙ sym (chosen_out (i + 1) (let z : i ≢ k = (λ q. n (sym q)) in omega (arith, h, z)))
