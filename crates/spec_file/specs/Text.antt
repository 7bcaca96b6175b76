-- A frame's line in a text: its bytes as two lower-case digits each, then 0a.
use Rattle.std.specs.Prelude.{ℕ, ◌/◌, ◌%◌, cond, List, [], ◌∷◌, ◌++◌, length, leb}
use Rattle.spec_file.specs.Digit.{digit_of}

-- two digits for each byte, the larger part first
unfoldable pub digits : List ℕ → List ℕ
digits [] = []
digits (b ∷ f) = digit_of (b / 16) ∷ digit_of (b % 16) ∷ digits f

-- a frame's line with its 0a
unfoldable pub text : List ℕ → List ℕ
text f = digits f ++ (10 ∷ [])

-- what is written of a frame where there is room for so many bytes: the whole line, or nothing where it does not fit
unfoldable pub written : List ℕ → ℕ → List ℕ
written f room = cond (leb (length (text f)) room) (text f) []
