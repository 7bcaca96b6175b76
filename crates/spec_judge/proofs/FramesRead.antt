-- A text of frames that pass, one after the other, is read as the graph that they make.
use Prim.Native.Nat.{ℕ, ◌+◌, ◌%◌, ◌≤◌}
use mathlib.Core.Path.{◌≡◌, refl, ap, ◌∙◌}
use mathlib.Core.Bool.{Bool, true, false, ◌&&◌}
use mathlib.Core.List.{List, [], ◌∷◌, ◌++◌}
use native.Mathlib.Omega.{arith}
use borrow.Author.Tests.{eqb-true, leb-true}
use lib.Dec.{eqb, leb}
use lib.ListN.{length}
use Rattle.spec_file.proofs.FrameTerms.{Bytes}
use Rattle.spec_file.specs.Text.{digits}
use Rattle.spec_file.specs.TextLines.{TextLine, split}
use Rattle.spec_file.specs.Meaning.{meaning}
use Rattle.spec_file.proofs.RoundTrip.{spelt_digits, split_text}
use Rattle.spec_file.proofs.TextLines.{whole}
use Rattle.spec_file.specs.WellFormed.{Everywhere}
use Rattle.spec_file.proofs.DigitValues.{both}
use Rattle.spec_sc.specs.Text.{text_of}
use Rattle.spec_judge.specs.Reading.{Frame, byte_at, is_read, known, Reading, refusal, after, parsed, read_lines}
use Rattle.spec_judge.proofs.Parsed.{passed}

module _ (n : ℕ) where
  -- each passes behind those before it
  abbrev pub Passing : Reading → List Frame → Type 0
  Passing r [] = Unit {0}
  Passing r (f ∷ fs) = (refusal n r f ≡ 0) × Passing (after f r) fs

-- behind these frames
unfoldable pub after_all : List Frame → Reading → Reading
after_all [] r = r
after_all (f ∷ fs) r = after_all fs (after f r)

pub after_append : (fs gs : List Frame) (r : Reading) → after_all (fs ++ gs) r ≡ after_all gs (after_all fs r)
unfolding after_all
after_append [] gs r = refl
after_append (f ∷ fs) gs r = after_append fs gs (after f r)

module _ (n : ℕ) where
  pub passing_append : (fs gs : List Frame) (r : Reading) → Passing n r fs → Passing n (after_all fs r) gs → Passing n r (fs ++ gs)
  unfolding after_all
  passing_append [] gs r p q = q
  passing_append (f ∷ fs) gs r p q = (p.0, passing_append fs gs (after f r) p.1 q)

  -- a line of a known kind is not empty
  known_length : (f : Frame) → known f ≡ true → 1 ≤ length f
  unfolding known
  known_length f e = go (is_read f) refl
    where
      go : (b : Bool) → is_read f ≡ b → 1 ≤ length f
      go true q = omega (arith, eqb-true (length f) 5 (rw q at e))
      go false q =
          let a = both (eqb (byte_at f 0) 0x41) (leb 4 (length f) && eqb (length f % 2) 0) (rw q at e) in
          omega (arith, leb-true 4 (length f) (both (leb 4 (length f)) (eqb (length f % 2) 0) a.1).0)

  read_line : (f : Frame) (ls : List TextLine) (k : ℕ) (r : Reading) → Bytes f → refusal n r f ≡ 0 → read_lines n k (whole (digits f) ∷ ls) r ≡ read_lines n (k + 1) ls (after f r)
  unfolding read_lines meaning
  read_line f ls k r b e = rw (spelt_digits f (known_length f (passed n r f e).0) b, read_lines, e)

  pub read_frames_lem : (fs : List Frame) (k : ℕ) (r : Reading) → Everywhere Bytes fs → Passing n r fs → read_lines n k (split (text_of fs)) r ≡ parsed (after_all fs r).graph
  unfolding read_lines after_all text_of split
  read_frames_lem [] k r b p = refl
  read_frames_lem (f ∷ fs) k r b p = ap (λ (ls : List TextLine). read_lines n k ls r) (split_text f (text_of fs)) ∙
      read_line f (split (text_of fs)) k r b.0 p.0 ∙ read_frames_lem fs (k + 1) (after f r) b.1 p.1
