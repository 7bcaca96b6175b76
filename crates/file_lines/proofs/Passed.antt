-- A line that is no remark is a frame exactly where it has an even number of characters and each of them is a digit.
use Prim.Native.Nat.{ℕ, zero, suc, ◌/◌, ◌%◌, ◌<◌}
use native.Mathlib.Omega.{arith}
use mathlib.Core.Path.{◌≡◌, refl}
use mathlib.Core.Bool.{Bool, true, false}
use mathlib.Core.List.{List, [], ◌∷◌}
use lib.ListN.{length, get_or}
use Rattle.spec_file.specs.Digit.{digit}
use Rattle.spec_file.specs.Frame.{hexadecimal}
use Rattle.spec_file.specs.Meaning.{remark}
use Rattle.spec_file.proofs.DigitValues.{both}
use Rattle.file_lines.specs.Meaning.{line_of}
use Rattle.file_lines.specs.declared.reader.Line.TheVariants.{Frame, Broken}
use Rattle.file_lines.proofs.Meaning.{line_of_broken, line_of_frame}

-- every character is a digit
abbrev AllDigits : List ℕ → Type 0
AllDigits l = (k : ℕ) → k < length l → digit (get_or l k 0) ≡ true

even_digits : (l : List ℕ) → length l % 2 ≡ 0 → AllDigits l → hexadecimal l ≡ true
unfolding hexadecimal
even_digits [] e h = refl
even_digits (x ∷ []) e h = absurd (omega arith)
even_digits (x ∷ y ∷ l) e h = rw (h zero (omega arith), h (suc zero) (omega arith)) (even_digits l (omega arith) (λ k z. h (suc (suc k)) (omega arith)))

hexadecimal_digits : (l : List ℕ) → hexadecimal l ≡ true → (length l % 2 ≡ 0) × AllDigits l
unfolding hexadecimal
hexadecimal_digits [] e = (refl, λ k z. absurd (omega arith))
hexadecimal_digits (x ∷ []) e = absurd (let z : ◌≡◌ {A = Bool} false true = e in cc)
hexadecimal_digits (x ∷ y ∷ l) e =
    let one = both (digit x) _ e in
    let two = both (digit y) _ one.1 in
    let rest = hexadecimal_digits l two.1 in
    (omega (arith, rest.0), at one.0 two.0 rest.1)
  where
    at : digit x ≡ true → digit y ≡ true → AllDigits l → AllDigits (x ∷ y ∷ l)
    at p q r zero z = p
    at p q r (suc zero) z = q
    at p q r (suc (suc k)) z = r k (omega arith)

-- ---- what the reader answers
module _ (l : List ℕ) (no : remark l ≡ false) where
  pub digits_frame : 0 < length l → length l % 2 ≡ 0 → AllDigits l → line_of l ≡ Frame (length l / 2)
  digits_frame h e d = line_of_frame l no h (even_digits l e d)

  pub others_broken : ((length l % 2 ≡ 0) × AllDigits l → ⊥) → line_of l ≡ Broken
  others_broken n = line_of_broken l no (go (hexadecimal l) refl)
    where
      go : (b : Bool) → hexadecimal l ≡ b → hexadecimal l ≡ false
      go false e = e
      go true e = absurd (n (hexadecimal_digits l e))
