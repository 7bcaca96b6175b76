-- A line, without the 0a that ends it, and the frame that it spells: two hexadecimal digits a byte, at least one byte.
-- Any other line is no frame.
use Rattle.std.specs.Prelude.{ℕ, ◌+◌, ◌*◌, Bool, true, false, ◌&&◌, List, [], ◌∷◌}
use Rattle.std.proofs.Math.Option.{Option, none, some}
use Rattle.spec_file.specs.Digit.{digit, value}

-- an even number of digits, and nothing else
unfoldable pub hexadecimal : List ℕ → Bool
hexadecimal [] = true
hexadecimal (x ∷ []) = false
hexadecimal (x ∷ y ∷ l) = digit x && (digit y && hexadecimal l)

-- each two characters as one byte; an odd last character is dropped
unfoldable pub pairs : List ℕ → List ℕ
pairs [] = []
pairs (x ∷ []) = []
pairs (x ∷ y ∷ l) = (16 * value x + value y) ∷ pairs l

-- the frame of a line: none if the line is empty, odd, or has any other character
unfoldable pub frame : List ℕ → Option (List ℕ)
frame [] = none
frame (x ∷ l) = elim (hexadecimal (x ∷ l)) [ true ↦ some (pairs (x ∷ l)) | false ↦ none ]
