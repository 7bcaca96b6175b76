-- Four registers taken one by one are the same registers.
use Rattle.std.proofs.Common.{◌≡◌, ℕ, List, [], ◌∷◌, length, get_or, refl, arith}

pub same_four : (rs : List ℕ) → length rs ≡ 4 → (get_or rs 0 0 ∷ get_or rs 1 0 ∷ get_or rs 2 0 ∷ get_or rs 3 0 ∷ []) ≡ rs
same_four [] e = absurd (omega (arith, e))
same_four (a ∷ []) e = absurd (omega (arith, e))
same_four (a ∷ b ∷ []) e = absurd (omega (arith, e))
same_four (a ∷ b ∷ c ∷ []) e = absurd (omega (arith, e))
same_four (a ∷ b ∷ c ∷ d ∷ []) e = refl
same_four (a ∷ b ∷ c ∷ d ∷ x ∷ rs) e = absurd (omega (arith, e))
