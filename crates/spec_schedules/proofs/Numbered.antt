-- Computed tests over all 720 permutations, kept in this one file because they take their time.
use mathlib.Core.Path.{◌≡◌, refl}
use mathlib.Core.Bool.{Bool, true, false}
use mathlib.Core.List.{List, [], ◌∷◌}
use Prim.Native.Nat.{ℕ}
use lib.Dec.{eqb, ltb}
use lib.ListN.{length}
use Rattle.spec_schedules.specs.Lists.{range, both, any, all}
use Rattle.spec_schedules.specs.Fulls.{fronts}
use Rattle.spec_schedules.specs.Permutations.{without, each, perms_of, permutations, permutation_of}
use Rattle.spec_schedules.proofs.PermutationTerms.{place_in, inverse, compose}

-- there are 720 permutations of six
pub permutations_length : length permutations ≡ 720
unfolding range fronts without each perms_of permutations
permutations_length = refl

-- the first number is the identity's
pub number_none : permutation_of 0 ≡ range 0 6
unfolding range fronts without each perms_of permutations permutation_of
number_none = refl

-- tests that compute
unfoldable pub same_numbers : List ℕ → List ℕ → Bool
same_numbers [] [] = true
same_numbers [] (y ∷ ys) = false
same_numbers (x ∷ xs) [] = false
same_numbers (x ∷ xs) (y ∷ ys) = elim (eqb x y) [ true ↦ same_numbers xs ys | false ↦ false ]

unfoldable pub distinctb : List ℕ → Bool
distinctb [] = true
distinctb (x ∷ xs) = elim (any (eqb x) xs) [ true ↦ false | false ↦ distinctb xs ]

unfoldable pub permutationb : List ℕ → Bool
permutationb π = both (eqb (length π) 6) (both (all (λ x. ltb x 6) π) (distinctb π))

-- a permutation whose inverse is one and undoes it from both sides
unfoldable pub invertible : List ℕ → Bool
invertible π = both (permutationb π) (both (permutationb (inverse π)) (both (same_numbers (compose (inverse π) π) (range 0 6)) (same_numbers (compose π (inverse π)) (range 0 6))))

pub all_invertible : all invertible permutations ≡ true
unfolding range any all fronts without each perms_of permutations place_in inverse compose both same_numbers distinctb permutationb invertible
all_invertible = refl
