-- What a call says, and the word of 64 bits in which it says it: bits 56 to 63 the kind, bits 48 to 55 a refusal's number, else 0, bits 0
-- to 47 an answer's length in bytes, 0 where there is none, of rows their number, or a refusal's place. What the calls say fits these bits,
-- so that nothing is lost: of rows where the output is shorter than 26 * 2^48 bytes, of the judge where the text is shorter than 2^48
-- bytes, of all else whatever is lent.
use Rattle.std.specs.Prelude.{ℕ, ◌+◌, ◌*◌, ◌/◌, ◌%◌, ◌^◌, ◌<◌, cond, eqb}

-- kind 1: answered, with a length in bytes; kind 2: no more, none, no or covered; kind 3: refused by a number at a place; kind 4: of two
-- files the second refused, by a number at a place
pub data Reply : Type 0 where
  answered : ℕ → Reply
  nothing : Reply
  refused : ℕ → ℕ → Reply
  second_refused : ℕ → ℕ → Reply

unfoldable pub word_of : Reply → ℕ
word_of (answered n) = 2 ^ 56 + n % 2 ^ 48
word_of nothing = 2 * 2 ^ 56
word_of (refused k n) = 3 * 2 ^ 56 + k * 2 ^ 48 + n % 2 ^ 48
word_of (second_refused k n) = 4 * 2 ^ 56 + k * 2 ^ 48 + n % 2 ^ 48

-- a reply fits a word: a length and a place have 48 bits, a number has eight
abbrev pub Fits : Reply → Type 0
Fits (answered n) = n < 2 ^ 48
Fits nothing = Unit {0}
Fits (refused k n) = (k < 256) × (n < 2 ^ 48)
Fits (second_refused k n) = (k < 256) × (n < 2 ^ 48)

-- what a reader takes out of a word: bits 56 to 63, bits 48 to 55, bits 0 to 47
unfoldable pub kind_in : ℕ → ℕ
kind_in w = w / 2 ^ 56

unfoldable pub number_in : ℕ → ℕ
number_in w = w / 2 ^ 48 % 256

unfoldable pub rest_in : ℕ → ℕ
rest_in w = w % 2 ^ 48

-- what a call said, by those three
unfoldable pub read_in : ℕ → Reply
read_in w =
    cond (eqb (kind_in w) 1) (answered (rest_in w)) (cond (eqb (kind_in w) 2) nothing
    (cond (eqb (kind_in w) 3) (refused (number_in w) (rest_in w)) (second_refused (number_in w) (rest_in w))))
