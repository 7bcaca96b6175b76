-- Walking back over the steps taken. A step goes back over steps of other bytes that need not stay before it, as far as it can, and passes
-- one where a test holds. R1 is this with "that step's byte is greater", R2 far with "a smaller twin's move would have been smaller there".
use Rattle.std.specs.Prelude.{ℕ, Bool, true, false, List, [], ◌∷◌, eqb}

-- among any steps: `who` is a step's byte, `dependent` says of two that they must keep their order, and `starts` of a step and a byte that
-- the byte's step would better have been taken there. The steps are given latest first.
module _ {D : Type 0} (who : D → ℕ) (dependent : D → D → Bool) (starts : D → ℕ → Bool) where
  unfoldable pub back : List D → D → Bool
  back [] d = false
  back (e ∷ before) d = elim (eqb (who e) (who d)) [
    | true ↦ false
    | false ↦ elim (dependent e d) [ true ↦ false | false ↦ elim (starts e (who d)) [ true ↦ true | false ↦ back before d ] ]
  ]
