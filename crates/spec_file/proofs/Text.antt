-- A frame's line: how long it is, that of two frames joined, and what is written of it by the room there is.
use Prim.Native.Nat.{ℕ, ◌+◌, ◌*◌, ◌/◌, ◌%◌, ◌≤◌, ◌<◌}
use native.Mathlib.Omega.{arith}
use mathlib.Core.Path.{◌≡◌, refl, ◌∙◌, ap}
use mathlib.Core.List.{List, [], ◌∷◌, ◌++◌}
use lib.ListN.{length, length-append}
use borrow.Author.Tests.{leb-true, le-leb, lt-leb}
use lib.Dec.{leb}
use mathlib.Core.Bool.{Bool, true, false, cond}
use Rattle.spec_file.specs.Digit.{digit_of}
use Rattle.spec_file.specs.Text.{digits, text, written}

pub length_digits : (f : List ℕ) → length (digits f) ≡ 2 * length f
unfolding digits
length_digits [] = refl
length_digits (b ∷ f) = let ih = length_digits f in omega arith

pub length_text : (f : List ℕ) → length (text f) ≡ 2 * length f + 1
unfolding text
length_text f = length-append (digits f) (10 ∷ []) ∙ ap (λ (n : ℕ). n + 1) (length_digits f)

pub digits_append : (f g : List ℕ) → digits (f ++ g) ≡ digits f ++ digits g
unfolding digits
digits_append [] g = refl
digits_append (b ∷ f) g = ap (λ (r : List ℕ). digit_of (b / 16) ∷ digit_of (b % 16) ∷ r) (digits_append f g)

-- ---- what is written
pub written_fits : (f : List ℕ) (room : ℕ) → 2 * length f + 1 ≤ room → written f room ≡ text f
unfolding written
written_fits f room h = rw (le-leb (length (text f)) room (omega (arith, length_text f)))

pub written_short : (f : List ℕ) (room : ℕ) → room < 2 * length f + 1 → written f room ≡ []
unfolding written
written_short f room h = rw (lt-leb (length (text f)) room (omega (arith, length_text f)))

pub length_written : (f : List ℕ) (room : ℕ) → length (written f room) ≤ room
unfolding written
length_written f room = go (leb (length (text f)) room) refl
  where
    go : (t : Bool) → leb (length (text f)) room ≡ t → length (cond (leb (length (text f)) room) (text f) []) ≤ room
    go true e = rw e (leb-true (length (text f)) room e)
    go false e = rw e (omega arith)
