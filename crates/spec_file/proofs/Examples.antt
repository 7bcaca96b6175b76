-- Worked lines: what the definitions say of a few texts, by computation.
use mathlib.Core.Path.{◌≡◌, refl}
use mathlib.Core.Bool.{false}
use mathlib.Core.List.{[], ◌∷◌}
use mathlib.Core.Option.{none, some}
use Rattle.spec_file.specs.Digit.{lower, digit, value, digit_of}
use Rattle.spec_file.specs.Frame.{hexadecimal, pairs, frame}
use Rattle.spec_file.specs.Text.{digits, text}
use Rattle.spec_file.specs.Split.{line_length}
use Rattle.spec_file.specs.TextLines.{prepend, before, split}
use Rattle.spec_file.specs.Meaning.{remark, remarked, framed, broken, spelt, meaning}
use Rattle.spec_file.specs.Plain.{joined, is_remark, kept, without_remarks, lowered, plain}

-- "10ff" is the frame 10 ff, and "10Ff" is
two_bytes : frame (0x31 ∷ 0x30 ∷ 0x66 ∷ 0x66 ∷ []) ≡ some (0x10 ∷ 0xff ∷ [])
unfolding frame hexadecimal lower digit pairs value
two_bytes = refl

capitals : frame (0x31 ∷ 0x30 ∷ 0x46 ∷ 0x66 ∷ []) ≡ some (0x10 ∷ 0xff ∷ [])
unfolding frame hexadecimal lower digit pairs value
capitals = refl

-- the empty line, "1", "1G", "1@" and "1 " are no frames
empty : frame [] ≡ none
unfolding frame
empty = refl

odd : frame (0x31 ∷ []) ≡ none
unfolding frame hexadecimal
odd = refl

capital_g : frame (0x31 ∷ 0x47 ∷ []) ≡ none
unfolding frame hexadecimal lower digit
capital_g = refl

at_sign : frame (0x31 ∷ 0x40 ∷ []) ≡ none
unfolding frame hexadecimal lower digit
at_sign = refl

space : frame (0x31 ∷ 0x20 ∷ []) ≡ none
unfolding frame hexadecimal lower digit
space = refl

-- "#" is a remark, also with 00, 0d and ff behind it; " #" is none
short_remark : spelt (0x23 ∷ []) ≡ remarked
unfolding spelt remark
short_remark = refl

any_bytes : spelt (0x23 ∷ 0 ∷ 0x0d ∷ 0xff ∷ []) ≡ remarked
unfolding spelt remark
any_bytes = refl

behind_a_space : spelt (0x20 ∷ 0x23 ∷ []) ≡ broken
unfolding spelt remark frame hexadecimal lower digit
behind_a_space = refl

-- a remark without its 0a is broken
unended_remark : meaning (record { bytes = 0x23 ∷ []; ended = false }) ≡ broken
unfolding meaning
unended_remark = refl

-- "#A", "0A", "#" without its 0a: the first line goes, the others are lowered
what_is_left : plain (0x23 ∷ 0x41 ∷ 10 ∷ 0x30 ∷ 0x41 ∷ 10 ∷ 0x23 ∷ []) ≡ 0x30 ∷ 0x61 ∷ 10 ∷ 0x23 ∷ []
unfolding plain without_remarks lowered lower joined kept is_remark remark split before prepend
what_is_left = refl

-- the frame 0a 9f is written "0a9f" with its 0a behind it
line : text (0x0a ∷ 0x9f ∷ []) ≡ 0x30 ∷ 0x61 ∷ 0x39 ∷ 0x66 ∷ 0x0a ∷ []
unfolding text digits digit_of
line = refl

-- the first line of a text, and that of a text with no 0a
first_line : line_length (0x31 ∷ 0x32 ∷ 0x0a ∷ 0x33 ∷ []) ≡ 2
unfolding line_length
first_line = refl

no_end : line_length (0x31 ∷ 0x32 ∷ []) ≡ 2
unfolding line_length
no_end = refl
