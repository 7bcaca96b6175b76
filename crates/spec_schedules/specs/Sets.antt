-- Sets of small numbers, a bit for each: membership.
use Rattle.std.specs.Prelude.{ℕ, ◌/◌, ◌%◌, ◌^◌, Bool, eqb}

-- whether t is in the set
unfoldable pub has : ℕ → ℕ → Bool
has s t = eqb (s / 2 ^ t % 2) 1
