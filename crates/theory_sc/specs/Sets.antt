-- Sets of small numbers as one number, a bit for each member: a byte holds a set of threads, or one of locations.
use Rattle.std.specs.Prelude.{ℕ, zero, suc, ◌+◌, ◌^◌, Bool, true, false, ◌||◌, eqb}
use Rattle.spec_schedules.specs.Sets.{has}

-- k, or nothing
unfoldable pub addend : Bool → ℕ → ℕ
addend true k = k
addend false k = 0

-- the set of those below n that pass the test
unfoldable pub set_of : (ℕ → Bool) → ℕ → ℕ
set_of f zero = 0
set_of f (suc n) = set_of f n + addend (f n) (2 ^ n)

-- the set of locations s, and l
unfoldable pub joined : ℕ → ℕ → ℕ
joined l s = set_of (λ k. eqb l k || has s k) 8
