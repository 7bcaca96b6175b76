-- A graph text is refused by 30, 31, 32 or 33, at a line from 1.
use Prim.Native.Nat.{ℕ, ◌+◌, ◌≤◌}
use mathlib.Core.Path.{◌≡◌, refl}
use mathlib.Core.Bool.{Bool, true, false, cond, not, true≢false}
use mathlib.Core.List.{List, [], ◌∷◌}
use native.Mathlib.Omega.{arith}
use lib.Dec.{eqb}
use Rattle.spec_file.specs.TextLines.{TextLine, split}
use Rattle.spec_file.specs.Meaning.{Meaning, remarked, framed, broken, meaning}
use Rattle.spec_judge.specs.Reading.{Frame, known, in_range, Reading, in_order, refusal, after, fresh, Parsed, parsed, refused_at, read_lines, read_graph}

abbrev Numbered : ℕ → ℕ → Type 0
Numbered n k = (30 ≤ n) × (n ≤ 33) × (1 ≤ k)

of_three : (a b c : Bool) → eqb (cond a 31 (cond b 32 (cond c 33 0))) 0 ≡ false → (30 ≤ cond a 31 (cond b 32 (cond c 33 0))) × (cond a 31 (cond b 32 (cond c 33 0)) ≤ 33)
of_three true b c e = (omega arith, omega arith)
of_three false true c e = (omega arith, omega arith)
of_three false false true e = (omega arith, omega arith)
of_three false false false e = absurd (true≢false e)

refusal_number : (n : ℕ) (r : Reading) (f : Frame) → eqb (refusal n r f) 0 ≡ false → (30 ≤ refusal n r f) × (refusal n r f ≤ 33)
unfolding refusal
refusal_number n r f e = of_three (not (known f)) (not (in_range n f)) (not (in_order r f)) e

lines_numbered : (n k : ℕ) (ls : List TextLine) (r : Reading) → 1 ≤ k → (m j : ℕ) → read_lines n k ls r ≡ refused_at m j → Numbered m j
unfolding read_lines
lines_numbered n k [] r h m j e = absurd (let z : ◌≡◌ {A = ℕ} 0 1 = cc in omega arith)
lines_numbered n k (l ∷ ls) r h m j e =
    go (meaning l) refl (lines_numbered n (k + 1) ls r (omega arith) m j) (λ f. lines_numbered n (k + 1) ls (after f r) (omega arith) m j)
  where
    go : (x : Meaning) → meaning l ≡ x → (read_lines n (k + 1) ls r ≡ refused_at m j → Numbered m j)
        → ((f : Frame) → read_lines n (k + 1) ls (after f r) ≡ refused_at m j → Numbered m j) → Numbered m j
    go broken q past ih =
        let i : refused_at 30 k ≡ refused_at m j = rw (q, read_lines) at e in
        let a : 30 ≡ m = cc in
        let b : k ≡ j = cc in
        (omega arith, omega arith, omega arith)
    go remarked q past ih = past (rw (q, read_lines) at e)
    go (framed f) q past ih = by (eqb (refusal n r f) 0) refl
      where
        line : cond (eqb (refusal n r f) 0) (read_lines n (k + 1) ls (after f r)) (refused_at (refusal n r f) k) ≡ refused_at m j
        line = rw (q, read_lines) at e

        by : (b : Bool) → eqb (refusal n r f) 0 ≡ b → Numbered m j
        by true c = ih f (let i : read_lines n (k + 1) ls (after f r) ≡ refused_at m j = rw c at line in i)
        by false c =
            let i : refused_at (refusal n r f) k ≡ refused_at m j = rw c at line in
            let a : refusal n r f ≡ m = cc in
            let b : k ≡ j = cc in
            let w = refusal_number n r f c in
            (omega (arith, w.0), omega (arith, w.1), omega arith)

pub text_numbers : (n : ℕ) (text : List ℕ) (m j : ℕ) → read_graph n text ≡ refused_at m j → Numbered m j
unfolding read_graph
text_numbers n text m j e = lines_numbered n 1 (split text) (fresh n) (omega arith) m j e
