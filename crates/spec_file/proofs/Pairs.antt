-- The bytes that a line's characters spell, two by two: how many they are, that they are bytes, and what stands at each place.
use Prim.Native.Nat.{ℕ, zero, suc, ◌+◌, ◌*◌, ◌/◌, ◌<◌}
use native.Mathlib.Omega.{arith}
use mathlib.Core.Path.{◌≡◌, refl, sym, ◌∙◌, ap}
use mathlib.Core.List.{List, [], ◌∷◌}
use lib.ListN.{length, get_or}
use Rattle.spec_file.specs.Digit.{value}
use Rattle.spec_file.specs.Frame.{pairs}
use Rattle.spec_file.proofs.FrameTerms.{Bytes}
use Rattle.spec_file.proofs.DigitValues.{value_below}

pub length_pairs : (l : List ℕ) → length (pairs l) ≡ length l / 2
unfolding pairs
length_pairs [] = refl
length_pairs (x ∷ []) = refl
length_pairs (x ∷ y ∷ l) = let ih = length_pairs l in omega arith

pub pairs_bytes : (l : List ℕ) → Bytes (pairs l)
unfolding pairs
pairs_bytes [] = tt
pairs_bytes (x ∷ []) = tt
pairs_bytes (x ∷ y ∷ l) = (omega (arith, value_below x, value_below y), pairs_bytes l)

-- the byte at k is spelt by the characters at 2 * k and behind it
pub get_d_pairs : (l : List ℕ) (k : ℕ) → k < length l / 2
    → get_or (pairs l) k 0 ≡ 16 * value (get_or l (2 * k) 0) + value (get_or l (2 * k + 1) 0)
unfolding pairs
get_d_pairs [] k h = absurd (omega arith)
get_d_pairs (x ∷ []) k h = absurd (omega arith)
get_d_pairs (x ∷ y ∷ l) zero h = refl
get_d_pairs (x ∷ y ∷ l) (suc k) h =
    let e : 2 * suc k ≡ suc (suc (2 * k)) = omega arith in
    let g : 2 * suc k + 1 ≡ suc (suc (2 * k + 1)) = omega arith in
    get_d_pairs l k (omega arith)
    ∙ ap (λ (j : ℕ). 16 * value (get_or (x ∷ y ∷ l) j 0) + value (get_or l (2 * k + 1) 0)) (sym e)
    ∙ ap (λ (j : ℕ). 16 * value (get_or (x ∷ y ∷ l) (2 * suc k) 0) + value (get_or (x ∷ y ∷ l) j 0)) (sym g)

-- every number of a list of bytes is below 256, also behind the end
pub bytes_at : (f : List ℕ) (k : ℕ) → Bytes f → get_or f k 0 < 256
bytes_at [] k b = omega arith
bytes_at (x ∷ f) zero b = b.0
bytes_at (x ∷ f) (suc k) b = bytes_at f k b.1

pub bytes_all : (f : List ℕ) → ((k : ℕ) → get_or f k 0 < 256) → Bytes f
bytes_all [] h = tt
bytes_all (x ∷ f) h = (h zero, bytes_all f (λ k. h (suc k)))
