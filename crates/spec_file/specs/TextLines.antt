-- A text as its lines: each goes up to the next 0a, and has its 0a or, as the last one may, has not.
use Rattle.std.specs.Prelude.{ℕ, Bool, true, false, List, [], ◌∷◌, eqb}

-- a line's bytes without its 0a, and whether it has its 0a
pub record TextLine : Type 0 where
  pub bytes : List ℕ
  pub ended : Bool

-- a character in front of a text that has these lines: 0a ends an empty line, any other stands in front of the first line
unfoldable pub prepend : ℕ → List TextLine → List TextLine
prepend c [] = record { bytes = c ∷ []; ended = false } ∷ []
prepend c (l ∷ ls) = record { bytes = c ∷ l.bytes; ended = l.ended } ∷ ls

unfoldable pub before : ℕ → List TextLine → List TextLine
before c ls = elim (eqb c 10) [ true ↦ record { bytes = []; ended = true } ∷ ls | false ↦ prepend c ls ]

-- the lines of a text; an empty text has none
unfoldable pub split : List ℕ → List TextLine
split [] = []
split (c ∷ cs) = before c (split cs)
