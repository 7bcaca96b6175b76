-- Permutations of six: places, inverse and composition.
use Prim.Native.Nat.{ℕ, suc, ◌<◌}
use mathlib.Core.Path.{◌≡◌}
use mathlib.Core.Bool.{true, false}
use mathlib.Core.List.{List, [], ◌∷◌, map, Memᴰ}
use lib.Dec.{eqb}
use lib.ListN.{length}
use Rattle.spec_schedules.specs.Lists.{range, Distinct}
use Rattle.spec_schedules.specs.Permutations.{moved}

-- six distinct numbers below six
pub record Permutation (π : List ℕ) : Type 0 where
  pub six : length π ≡ 6
  pub below : (x : ℕ) → Memᴰ x π → x < 6
  pub distinct : Distinct π

-- the place of a number
unfoldable pub place_in : List ℕ → ℕ → ℕ
place_in [] x = 0
place_in (y ∷ ys) x = elim (eqb y x) [ true ↦ 0 | false ↦ suc (place_in ys x) ]

-- the permutation that undoes π
unfoldable pub inverse : List ℕ → List ℕ
inverse π = map (place_in π) (range 0 6)

-- first π, then ρ
unfoldable pub compose : List ℕ → List ℕ → List ℕ
compose ρ π = map (moved ρ) π
