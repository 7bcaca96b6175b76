-- Refusals of a graph text are small: the number is at most 33, and the place at most as many as the text has bytes, since it has no more lines.
use Prim.Native.Nat.{ℕ, suc, ◌+◌, ◌≤◌}
use mathlib.Core.Path.{◌≡◌, refl}
use mathlib.Core.Bool.{Bool, true, false, cond, not}
use mathlib.Core.List.{List, [], ◌∷◌}
use native.Mathlib.Omega.{arith}
use lib.Dec.{eqb}
use lib.ListN.{length}
use Rattle.spec_file.specs.TextLines.{TextLine, split}
use Rattle.spec_file.specs.Meaning.{Meaning, remarked, framed, broken, meaning}
use Rattle.spec_file.proofs.TextLines.{split_length}
use Rattle.spec_judge.specs.Reading.{Frame, known, in_range, Reading, in_order, refusal, after, fresh, Parsed, parsed, refused_at, read_lines, read_graph}

-- no number above 33, no place above m
abbrev pub Within : ℕ → Parsed → Type 0
Within m (parsed g) = Unit {0}
Within m (refused_at n k) = (n ≤ 33) × (k ≤ m)

small : (a b c : Bool) → cond (not a) 31 (cond (not b) 32 (cond (not c) 33 0)) ≤ 33
small true true true = omega arith
small true true false = omega arith
small true false c = omega arith
small false b c = omega arith

small_number : (n : ℕ) (r : Reading) (f : Frame) → refusal n r f ≤ 33
unfolding refusal
small_number n r f = small (known f) (in_range n f) (in_order r f)

lines_within : (n m k : ℕ) (ls : List TextLine) (r : Reading) → k + length ls ≤ suc m → Within m (read_lines n k ls r)
unfolding read_lines
lines_within n m k [] r h = tt
lines_within n m k (l ∷ ls) r h = go (meaning l) refl (λ s. lines_within n m (k + 1) ls s (omega arith))
  where
    by : (f : Frame) (b : Bool) → Within m (read_lines n (k + 1) ls (after f r)) → Within m (cond b (read_lines n (k + 1) ls (after f r)) (refused_at (refusal n r f) k))
    by f true ih = ih
    by f false ih = (small_number n r f, omega arith)

    go : (x : Meaning) → meaning l ≡ x → ((s : Reading) → Within m (read_lines n (k + 1) ls s)) → Within m (read_lines n k (l ∷ ls) r)
    go broken q ih = rw (q, read_lines) (omega arith, omega arith)
    go remarked q ih = rw (q, read_lines) (ih r)
    go (framed f) q ih = rw (q, read_lines) (by f (eqb (refusal n r f) 0) (ih (after f r)))

-- EVERY REFUSAL OF A TEXT
pub read_within : (n : ℕ) (text : List ℕ) → Within (length text) (read_graph n text)
unfolding read_graph
read_within n text = lines_within n (length text) 1 (split text) (fresh n) (omega (arith, split_length text))
