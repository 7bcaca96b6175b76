-- The kinds of frame, as one table: a kind's first byte, how long its frames are, and where its fields stand.
-- A position is counted from the frame's first byte; 0 says that the kind has no such field.
use Rattle.std.specs.Prelude.{ℕ, cond, List, [], ◌∷◌, eqb}
use Rattle.spec_file.specs.declared.kind.Kind.{Kind}

-- a row of the table: byte, least and greatest length, register, location, first and second operand, skip
abbrev pub row : ℕ → ℕ → ℕ → ℕ → ℕ → ℕ → ℕ → ℕ → Kind
row b m n r l p q k = record { byte = b; least = m; most = n; register = r; location = l; first = p; second = q; skip = k }

-- what a thread does by itself: assign, add; skip unless equal, assert equal; skip unless at most, assert at most
unfoldable pub own_kinds : List Kind
own_kinds =
    row 0x20 7 7 1 0 2 0 0
    ∷ row 0x21 7 7 1 0 2 0 0
    ∷ row 0x22 8 8 1 0 2 0 7
    ∷ row 0x23 7 7 1 0 2 0 0
    ∷ row 0x24 8 8 1 0 2 0 7
    ∷ row 0x25 7 7 1 0 2 0 0
    ∷ []

-- opens a thread; declares threads alike; lets a location start with a value; store, load, fetch and add, compare and swap; what a thread
-- does by itself
unfoldable pub kinds : List Kind
unfolding own_kinds
kinds =
    row 0x01 1 1 0 0 0 0 0
    ∷ row 0x02 3 7 0 0 0 0 0
    ∷ row 0x03 6 6 0 1 0 0 0
    ∷ row 0x10 7 7 0 1 2 0 0
    ∷ row 0x11 3 3 1 2 0 0 0
    ∷ row 0x12 8 8 1 2 3 0 0
    ∷ row 0x13 13 13 1 2 3 8 0
    ∷ own_kinds

-- the row of the table with this first byte; for an unknown byte a row that no length fits
unfoldable pub lookup : List Kind → ℕ → Kind
lookup [] b = row b 1 0 0 0 0 0 0
lookup (k ∷ ks) b = cond (eqb b k.byte) k (lookup ks b)

unfoldable pub kind_of : ℕ → Kind
kind_of b = lookup kinds b
