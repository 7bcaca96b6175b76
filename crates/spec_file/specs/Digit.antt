-- Hexadecimal digits, as the bytes that stand in a text: 30 to 39 are 0 to 9, 61 to 66 are a to f, and 41 to 46, A to F, are read as a
-- to f. What is written is lower case.
use Rattle.std.specs.Prelude.{ℕ, ◌+◌, ◌-◌, Bool, cond, ◌&&◌, ◌||◌, leb, ltb}

-- the byte is one of 0 to 9
abbrev pub decimal : ℕ → Bool
decimal b = leb 48 b && leb b 57

-- the byte is one of a to f
abbrev pub letter : ℕ → Bool
letter b = leb 97 b && leb b 102

-- the byte is one of A to F
abbrev pub capital : ℕ → Bool
capital b = leb 65 b && leb b 70

-- A to F as a to f; every other byte as it stands
unfoldable pub lower : ℕ → ℕ
lower b = cond (capital b) (b + 32) b

-- the byte is a hexadecimal digit
unfoldable pub digit : ℕ → Bool
digit b = decimal (lower b) || letter (lower b)

-- what the digit is worth; a byte that is no digit is worth 0
unfoldable pub value : ℕ → ℕ
value b = cond (decimal (lower b)) (lower b - 48) (cond (letter (lower b)) (lower b - 87) 0)

-- the digit that is worth n, for n below 16
unfoldable pub digit_of : ℕ → ℕ
digit_of n = cond (ltb n 10) (48 + n) (87 + n)
