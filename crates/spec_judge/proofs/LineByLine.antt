-- Reading a graph text line by line, as a loop over the text meets it: what is read from position `at` on, where the line there ends at `end`.
use Prim.Native.Nat.{ℕ, ◌+◌, ◌-◌, ◌<◌, ◌≤◌}
use mathlib.Core.Path.{◌≡◌, ap, ◌∙◌}
use mathlib.Core.Logic.{◌≢◌}
use mathlib.Core.List.{List}
use native.Mathlib.Omega.{arith}
use borrow.Author.Tests.{ne_eqb}
use lib.ListN.{length, take, drop, drop_of_length-le}
use Rattle.spec_file.specs.Split.{line_length}
use Rattle.spec_file.specs.TextLines.{TextLine, split}
use Rattle.spec_file.specs.Meaning.{remarked, framed, broken, spelt, meaning}
use Rattle.spec_file.proofs.TextLines.{split_at, split_end}
use Rattle.spec_judge.specs.Reading.{Frame, Reading, refusal, after, Parsed, parsed, refused_at, read_lines}

module _ (n k : ℕ) (text : List ℕ) (at : ℕ) (r : Reading) where
  -- the lines from here on
  abbrev pub FromHere : Parsed
  FromHere = read_lines n k (split (drop at text)) r

  pub text_over : length text ≤ at → FromHere ≡ parsed r.graph
  unfolding read_lines split
  text_over h = ap (λ (l : List ℕ). read_lines n k (split l) r) (drop_of_length-le text {i = at} h)

  module _ (end : ℕ) (e : end ≡ at + line_length (drop at text)) where
    -- 30: the last line has no 0a
    pub line_unended : at < length text → length text ≤ end → end ≤ length text → FromHere ≡ refused_at 30 k
    unfolding read_lines meaning
    line_unended h l m = ap (λ (ls : List TextLine). read_lines n k ls r) (split_end text at h (omega arith))

    module _ (inside : end < length text) where
      abbrev pub line : List ℕ
      line = take (end - at) (drop at text)

      -- 30: the line is neither a frame nor a remark
      pub line_broken : spelt line ≡ broken → FromHere ≡ refused_at 30 k
      unfolding read_lines meaning
      line_broken q = ap (λ (ls : List TextLine). read_lines n k ls r) (split_at text at end e inside) ∙ rw (q, read_lines)

      -- a remark is passed over
      pub line_remarked : spelt line ≡ remarked → FromHere ≡ read_lines n (k + 1) (split (drop (end + 1) text)) r
      unfolding read_lines meaning
      line_remarked q = ap (λ (ls : List TextLine). read_lines n k ls r) (split_at text at end e inside) ∙ rw (q, read_lines)

      -- 31 to 33
      pub line_refused : (f : Frame) → spelt line ≡ framed f → (m : ℕ) → refusal n r f ≡ m → m ≢ 0 → FromHere ≡ refused_at m k
      unfolding read_lines meaning
      line_refused f q m i ne = ap (λ (ls : List TextLine). read_lines n k ls r) (split_at text at end e inside) ∙ rw (q, read_lines, i, ne_eqb m 0 ne)

      -- the line passes
      pub line_passes : (f : Frame) → spelt line ≡ framed f → refusal n r f ≡ 0 → FromHere ≡ read_lines n (k + 1) (split (drop (end + 1) text)) (after f r)
      unfolding read_lines meaning
      line_passes f q i = ap (λ (ls : List TextLine). read_lines n k ls r) (split_at text at end e inside) ∙ rw (q, read_lines, i)
