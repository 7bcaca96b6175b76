-- What came of reading.
use Rattle.std.specs.Prelude.{ℕ, ◌≤◌, List, length, Result, Ok, Err}

-- no more was read than the buffer has room for
abbrev pub Within : {E : Type 0} → Result ℕ E → List ℕ → Type 0
Within (Ok n) file = n ≤ length file
Within (Err e) file = Unit {0}
