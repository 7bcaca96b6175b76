-- The integer that 32 bits mean in two's complement, and which of two such values is at most the other.
use Rattle.std.specs.Prelude.{ℕ, ◌^◌, Bool, cond, ltb, ℤ, pos, ◌-ℤ◌}
use Rattle.std.specs.Int.Signed.{le_z}

-- below 2^31 the number itself, from there on 2^32 less: 7fffffff is the greatest value, 80000000 the least, ffffffff is minus 1
unfoldable pub signed : ℕ → ℤ
signed n = cond (ltb n (2 ^ 31)) (pos n) (pos n -ℤ pos (2 ^ 32))

-- whether a means an integer of at most b's
unfoldable pub at_most : ℕ → ℕ → Bool
at_most a b = le_z (signed a) (signed b)
