-- A permutation packed in one number, a hexadecimal digit for each place. A table of such rows is the list of permutations if it passes one test:
-- it has 720 rows, each has six different digits below six, and each is smaller than the next.
use mathlib.Core.Path.{◌≡◌, sym, ap, ◌∙◌}
use mathlib.Core.Logic.{⊎_elim}
use mathlib.Core.Bool.{Bool, true}
use mathlib.Core.List.Memᴰ
use mathlib.Core.List.{List, [], ◌∷◌, map, Memᴰ}
use Prim.Native.Nat.{ℕ, ◌%◌}
use native.Mathlib.Omega.{arith}
use lib.Dec.{eqb}
use lib.ListN.{length, get_or, get_or-map, length-map}
use borrow.Author.Tests.{eqb-true}
use Rattle.spec_schedules.specs.Lists.{both, all}
use Rattle.spec_file.specs.Lists.{Ascends}
use Rattle.spec_schedules.specs.Order.{less}
use Rattle.spec_schedules.specs.Permutations.{permutations, permutation_of, unpacked}
use Rattle.spec_schedules.proofs.Order.{less_irreflexive, less_asymmetric, less_transitive}
use Rattle.spec_schedules.proofs.Lists.{both_left, both_right, all_at, ascends_within}
use Rattle.spec_schedules.proofs.Permutations.{permutations_complete, permutations_ascend}
use Rattle.spec_schedules.proofs.Numbered.{permutationb, permutations_length}
use Rattle.spec_schedules.proofs.Group.{get_d_any, permutation_is}

-- each is smaller than the next
unfoldable pub rises : List (List ℕ) → Bool
rises [] = true
rises (x ∷ []) = true
rises (x ∷ y ∷ l) = both (less x y) (rises (y ∷ l))

-- the test
unfoldable pub right_table : List ℕ → Bool
right_table rows = both (eqb (length rows) 720) (both (all permutationb (map unpacked rows)) (rises (map unpacked rows)))

rises_ascends : (l : List (List ℕ)) → rises l ≡ true → Ascends less l
unfolding rises
rises_ascends [] e = tt
rises_ascends (x ∷ []) e = ((λ y m. absurd (Memᴰ.not-nil m)), tt)
rises_ascends (x ∷ y ∷ l) e =
    let a = rises_ascends (y ∷ l) (both_right (less x y) (rises (y ∷ l)) e) in
    let h = both_left (less x y) (rises (y ∷ l)) e in
    ((λ z m. ⊎_elim (λ (q : z ≡ y). ap (less x) q ∙ h) (λ (k : Memᴰ z l). less_transitive x y z h (a.0 z k)) (Memᴰ.cases_cons m)), a)

-- A TABLE THAT PASSES IS THE LIST OF PERMUTATIONS: as many ascending permutations are all of them
pub table_is : (rows : List ℕ) → right_table rows ≡ true → map unpacked rows ≡ permutations
unfolding right_table
table_is rows e =
    let n = eqb-true (length rows) 720 (both_left (eqb (length rows) 720) _ e) in
    let t = both_right (eqb (length rows) 720) _ e in
    let among : (π : List ℕ) → Memᴰ π (map unpacked rows) → Memᴰ π permutations = λ (π : List ℕ) (m : Memᴰ π (map unpacked rows)). permutations_complete π (permutation_is π (all_at permutationb (map unpacked rows) π (both_left (all permutationb (map unpacked rows)) _ t) m)) in
    (ascends_within less less_irreflexive less_asymmetric (map unpacked rows) permutations (rises_ascends (map unpacked rows) (both_right (all permutationb (map unpacked rows)) _ t)) permutations_ascend among).1
    (omega (arith, n, length-map rows unpacked, permutations_length))

-- row by row
pub row_is : (rows : List ℕ) → map unpacked rows ≡ permutations → (k : ℕ) → unpacked (get_or rows (k % 720) 0) ≡ permutation_of k
unfolding permutation_of
row_is rows e k =
    let n = ap (λ (l : List (List ℕ)). length l) e in
    sym (get_or-map unpacked rows (k % 720) 0) ∙ get_d_any (map unpacked rows) (k % 720) (unpacked 0) [] (omega (arith, n, permutations_length))
    ∙ ap (λ (l : List (List ℕ)). get_or l (k % 720) []) e
