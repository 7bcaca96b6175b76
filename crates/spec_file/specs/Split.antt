-- How a text is split into lines: a line goes up to the next 0a.
use Rattle.std.specs.Prelude.{ℕ, suc, true, false, List, [], ◌∷◌, eqb}

-- how many bytes stand before the first 0a; all of them where there is none
unfoldable pub line_length : List ℕ → ℕ
line_length [] = 0
line_length (x ∷ l) = elim (eqb x 10) [ true ↦ 0 | false ↦ suc (line_length l) ]
