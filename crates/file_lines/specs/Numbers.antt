-- A number that says what was found, or 0 where nothing was, as the code answers it.
use Rattle.std.specs.Prelude.{ℕ, cond, eqb, Option, None, Some}

abbrev pub unless_zero : ℕ → Option ℕ
unless_zero n = cond (eqb n 0) None (Some n)
