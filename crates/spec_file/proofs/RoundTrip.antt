-- What is written is read back, and what is read and written again is the lower-case line: lower-case lines that are frames and frames of bytes
-- correspond one to one.
use Prim.Native.Nat.{ℕ, suc, ◌+◌, ◌*◌, ◌/◌, ◌%◌, ◌≤◌, ◌<◌}
use native.Mathlib.Omega.{arith}
use mathlib.Core.Path.{◌≡◌, refl, sym, ◌∙◌, ap}
use mathlib.Core.Bool.{true, false, ◌&&◌, false≢true}
use mathlib.Core.List.{List, [], ◌∷◌, ◌++◌, append_assoc, append-nil}
use mathlib.Core.Option.{some}
use lib.ListN.{length, take}
use lib.Seq.{take_at}
use borrow.Author.Tests.{ne_eqb}
use Rattle.spec_file.specs.Digit.{lower, digit, value, digit_of}
use Rattle.spec_file.specs.Frame.{hexadecimal, pairs, frame}
use Rattle.spec_file.proofs.FrameTerms.{Bytes}
use Rattle.spec_file.specs.Text.{digits, text}
use Rattle.spec_file.specs.Split.{line_length}
use Rattle.spec_file.specs.TextLines.{split}
use Rattle.spec_file.specs.Meaning.{remark, framed, spelt}
use Rattle.spec_file.specs.Plain.{lowered}
use Rattle.spec_file.proofs.DigitValues.{both, value_below, digit_digit_of, digit_of_value, digit_of_above}
use Rattle.spec_file.proofs.Frame.{frame_some, frame_of}
use Rattle.spec_file.proofs.Meaning.{spelt_frame, spelt_framed}
use Rattle.spec_file.proofs.Text.{length_digits}
use Rattle.spec_file.proofs.TextLines.{whole, split_line}
use Rattle.spec_file.proofs.Split.{line_length_append}

-- ---- from a frame to its line and back
byte_spelt : (b : ℕ) → b < 256
    → (digit (digit_of (b / 16)) ≡ true) × (digit (digit_of (b % 16)) ≡ true) × (16 * value (digit_of (b / 16)) + value (digit_of (b % 16)) ≡ b)
byte_spelt b h =
    let x = digit_digit_of (b / 16) (omega arith) in
    let y = digit_digit_of (b % 16) (omega arith) in
    (x.0, y.0, rw (x.1, y.1) (omega arith))

pub hexadecimal_digits : (f : List ℕ) → Bytes f → hexadecimal (digits f) ≡ true
unfolding hexadecimal digits
hexadecimal_digits [] h = refl
hexadecimal_digits (b ∷ f) h = let s = byte_spelt b h.0 in rw (s.0, s.1) (hexadecimal_digits f h.1)

pairs_digits_append : (f r : List ℕ) → Bytes f → pairs (digits f ++ r) ≡ f ++ pairs r
unfolding pairs digits
pairs_digits_append [] r h = refl
pairs_digits_append (b ∷ f) r h =
    let s = byte_spelt b h.0 in
    rw s.2 (ap (λ (g : List ℕ). b ∷ g) (pairs_digits_append f r h.1))

pub pairs_digits : (f : List ℕ) → Bytes f → pairs (digits f) ≡ f
unfolding pairs
pairs_digits f h = ap pairs (sym (append-nil (digits f))) ∙ pairs_digits_append f [] h ∙ append-nil f

-- a frame's line, without its 0a, reads back as that frame
pub frame_digits : (f : List ℕ) → 1 ≤ length f → Bytes f → frame (digits f) ≡ some f
frame_digits f n h =
    frame_of (digits f) (omega (arith, length_digits f)) (hexadecimal_digits f h) ∙ ap (λ (g : List ℕ). some g) (pairs_digits f h)

digits_no_remark : (f : List ℕ) → remark (digits f) ≡ false
unfolding remark digits
digits_no_remark [] = refl
digits_no_remark (b ∷ f) = ne_eqb (digit_of (b / 16)) 0x23 (λ e. omega (arith, digit_of_above (b / 16)))

pub spelt_digits : (f : List ℕ) → 1 ≤ length f → Bytes f → spelt (digits f) ≡ framed f
spelt_digits f n h = spelt_frame (digits f) f (digits_no_remark f) (frame_digits f n h)

-- two frames of bytes with the same line are the same
pub text_injective : (f g : List ℕ) → Bytes f → Bytes g → text f ≡ text g → f ≡ g
unfolding text pairs
text_injective f g hf hg e =
    sym (append-nil f) ∙ sym (pairs_digits_append f (10 ∷ []) hf) ∙ ap pairs e ∙ pairs_digits_append g (10 ∷ []) hg ∙ append-nil g

-- ---- from a line to its frame and back
pub digits_pairs : (l : List ℕ) → hexadecimal l ≡ true → digits (pairs l) ≡ lowered l
unfolding hexadecimal pairs digits lowered
digits_pairs [] e = refl
digits_pairs (x ∷ []) e = absurd (false≢true e)
digits_pairs (x ∷ y ∷ l) e =
    let h = both (digit x) (digit y && hexadecimal l) e in
    let k = both (digit y) (hexadecimal l) h.1 in
    let q : (16 * value x + value y) / 16 ≡ value x = omega (arith, value_below y) in
    let r : (16 * value x + value y) % 16 ≡ value y = omega (arith, value_below y) in
    rw (q, r, digit_of_value x h.0, digit_of_value y k.0) (ap (λ (m : List ℕ). lower x ∷ lower y ∷ m) (digits_pairs l k.1))

-- a line that is a frame is that frame's line without its 0a, once its capitals are lowered
pub digits_frame : (l f : List ℕ) → frame l ≡ some f → digits f ≡ lowered l
digits_frame l f e =
    let h = frame_some l f e in
    ap digits (sym h.1) ∙ digits_pairs l h.0

-- THE ROUND TRIP of what a line says: read and written again it is the lower-case line
pub digits_spelt : (l f : List ℕ) → spelt l ≡ framed f → digits f ≡ lowered l
digits_spelt l f e = digits_frame l f (spelt_framed l f e)

-- ---- a frame's line within a text
digits_clear : (f : List ℕ) → line_length (digits f) ≡ length (digits f)
unfolding line_length digits
digits_clear [] = refl
digits_clear (b ∷ f) =
    rw (
      ne_eqb (digit_of (b / 16)) 10 (omega (arith, digit_of_above (b / 16))),
      ne_eqb (digit_of (b % 16)) 10 (omega (arith, digit_of_above (b % 16))),
      line_length,
    )
    (ap (λ (n : ℕ). suc (suc n)) (digits_clear f))

-- whatever follows it, its first line is the frame's
pub line_length_text : (f r : List ℕ) → line_length (text f ++ r) ≡ length (digits f)
unfolding text
line_length_text f r = ap line_length (append_assoc (digits f) (10 ∷ []) r) ∙ line_length_append (digits f) r (digits_clear f)

pub take_text : (f r : List ℕ) → take (line_length (text f ++ r)) (text f ++ r) ≡ digits f
unfolding text
take_text f r =
    ap (λ (l : List ℕ). take (line_length (text f ++ r)) l) (append_assoc (digits f) (10 ∷ []) r)
    ∙ take_at (digits f) (10 ∷ r) (line_length (text f ++ r)) (sym (line_length_text f r))

pub split_text : (f r : List ℕ) → split (text f ++ r) ≡ whole (digits f) ∷ split r
unfolding text
split_text f r = ap split (append_assoc (digits f) (10 ∷ []) r) ∙ split_line (digits f) r (digits_clear f)
