-- When a line is a frame, and which one.
use Prim.Native.Nat.{ℕ, ◌≤◌, ◌<◌}
use native.Mathlib.Omega.{arith}
use mathlib.Core.Path.{◌≡◌, refl, ap}
use mathlib.Core.Bool.{Bool, true, false}
use mathlib.Core.List.{List, [], ◌∷◌}
use mathlib.Core.Option.{none, some}
use lib.ListN.{length}
use Rattle.spec_file.specs.Frame.{hexadecimal, pairs, frame}
use Rattle.spec_file.proofs.FrameTerms.{Bytes}
use Rattle.spec_file.proofs.Pairs.{pairs_bytes}

-- a line that is a frame is made of pairs of digits, and its frame is what they spell
pub frame_some : (l f : List ℕ) → frame l ≡ some f → (hexadecimal l ≡ true) × (pairs l ≡ f) × (1 ≤ length f)
unfolding frame hexadecimal pairs
frame_some [] f e = let z : ◌≡◌ {A = ℕ} 0 1 = cc in absurd (omega arith)
frame_some (x ∷ []) f e = let z : ◌≡◌ {A = ℕ} 0 1 = cc in absurd (omega arith)
frame_some (x ∷ y ∷ l) f e = go (hexadecimal (x ∷ y ∷ l)) refl
  where
    go : (t : Bool) → hexadecimal (x ∷ y ∷ l) ≡ t → (hexadecimal (x ∷ y ∷ l) ≡ true) × (pairs (x ∷ y ∷ l) ≡ f) × (1 ≤ length f)
    go true h =
        let s : some (pairs (x ∷ y ∷ l)) ≡ some f = rw (h, frame) at e in
        let p : pairs (x ∷ y ∷ l) ≡ f = cc in
        (h, p, omega (arith, ap length p))
    go false h = let s : none ≡ some f = rw (h, frame) at e in let z : ◌≡◌ {A = ℕ} 0 1 = cc in absurd (omega arith)

pub frame_pairs : (l f : List ℕ) → frame l ≡ some f → pairs l ≡ f
frame_pairs l f e = (frame_some l f e).1

pub frame_length : (l f : List ℕ) → frame l ≡ some f → 1 ≤ length f
frame_length l f e = (frame_some l f e).2

pub frame_bytes : (l f : List ℕ) → frame l ≡ some f → Bytes f
frame_bytes l f e = rw (frame_pairs l f e) at (pairs_bytes l)

-- a line of pairs of digits that is not empty is a frame
pub frame_of : (l : List ℕ) → 0 < length l → hexadecimal l ≡ true → frame l ≡ some (pairs l)
unfolding frame
frame_of [] h e = absurd (omega arith)
frame_of (x ∷ l) h e = rw (e, frame)

-- any other is none
pub frame_none : (l : List ℕ) → hexadecimal l ≡ false → frame l ≡ none
unfolding frame
frame_none [] e = refl
frame_none (x ∷ l) e = rw (e, frame)
