-- The permutations of six, each as the list of where 0, 1, .. 5 go: all of them ascending, each number in turn in front of what can be made
-- of the rest, numbered from 0 to 719 in that order. A number from 720 on gives the permutation of its rest modulo 720.
use Rattle.std.specs.Prelude.{ℕ, zero, suc, ◌/◌, ◌%◌, true, false, List, [], ◌∷◌, ◌++◌, eqb, get_or}
use Rattle.spec_schedules.specs.Lists.{range}
use Rattle.spec_schedules.specs.Fulls.{fronts}

-- a list without the first x
unfoldable pub without : ℕ → List ℕ → List ℕ
without x [] = []
without x (y ∷ ys) = elim (eqb x y) [ true ↦ ys | false ↦ y ∷ without x ys ]

-- each number y of the second list in front of what f gives for the first list without y
unfoldable pub each : (List ℕ → List (List ℕ)) → List ℕ → List ℕ → List (List ℕ)
each f xs [] = []
each f xs (y ∷ ys) = fronts y (f (without y xs)) ++ each f xs ys

-- the ways to put n of these numbers in order
unfoldable pub perms_of : ℕ → List ℕ → List (List ℕ)
perms_of zero xs = [] ∷ []
perms_of (suc n) xs = each (λ l. perms_of n l) xs xs

-- all permutations of six, ascending
unfoldable pub permutations : List (List ℕ)
permutations = perms_of 6 (range 0 6)

-- the permutation with number k, the k-th of them
unfoldable pub permutation_of : ℕ → List ℕ
permutation_of k = get_or permutations (k % 720) []

-- a permutation out of one number: a hexadecimal digit for each place, the most significant first
unfoldable pub unpacked : ℕ → List ℕ
unpacked r = r / 1048576 % 16 ∷ r / 65536 % 16 ∷ r / 4096 % 16 ∷ r / 256 % 16 ∷ r / 16 % 16 ∷ r % 16 ∷ []

-- where the permutation takes a number; six and above stay
abbrev pub moved : List ℕ → ℕ → ℕ
moved π x = get_or π x x
