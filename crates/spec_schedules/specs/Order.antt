-- A schedule is a list of bytes, one a step. Schedules are compared as lists, first difference first; a proper prefix is smaller.
use Rattle.std.specs.Prelude.{ℕ, Bool, true, false, List, [], ◌∷◌, eqb, ltb}

abbrev pub Schedule : Type 0
Schedule = List ℕ

-- whether the first schedule is smaller than the second
unfoldable pub less : Schedule → Schedule → Bool
less [] [] = false
less [] (y ∷ ys) = true
less (x ∷ xs) [] = false
less (x ∷ xs) (y ∷ ys) = elim (eqb x y) [ true ↦ less xs ys | false ↦ ltb x y ]
