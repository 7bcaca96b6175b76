-- What the code's answer to a line means.
use Prim.Native.Nat.{ℕ, ◌/◌, ◌<◌}
use native.Mathlib.Omega.{arith}
use mathlib.Core.Path.{◌≡◌, refl, sym, ◌∙◌, ap}
use mathlib.Core.Bool.{true, false}
use mathlib.Core.List.{List}
use lib.ListN.{length, get_or}
use Rattle.spec_file.specs.Frame.{hexadecimal, pairs}
use Rattle.spec_file.specs.Meaning.{remark, Meaning, remarked, framed, broken, spelt}
use Rattle.file_lines.specs.Meaning.{answer, line_of}
use Rattle.file_lines.specs.declared.reader.Line.TheVariants.{Frame, Remark, Broken}
use Rattle.spec_file.proofs.Pairs.{length_pairs}
use Rattle.spec_file.proofs.Frame.{frame_some, frame_of, frame_none}
use Rattle.spec_file.proofs.Meaning.{spelt_empty, is_remark, spelt_remark, spelt_broken, spelt_frame, spelt_framed}

-- ---- what the reader answers
pub line_of_empty : (l : List ℕ) → length l ≡ 0 → line_of l ≡ Broken
unfolding line_of answer
line_of_empty l e = ap answer (spelt_empty l e)

pub line_of_remark : (l : List ℕ) → 0 < length l → get_or l 0 0 ≡ 0x23 → line_of l ≡ Remark
unfolding line_of answer
line_of_remark l h e = ap answer (spelt_remark l (is_remark l h e))

pub line_of_broken : (l : List ℕ) → remark l ≡ false → hexadecimal l ≡ false → line_of l ≡ Broken
unfolding line_of answer
line_of_broken l r e = ap answer (spelt_broken l r (frame_none l e))

pub line_of_frame : (l : List ℕ) → remark l ≡ false → 0 < length l → hexadecimal l ≡ true → line_of l ≡ Frame (length l / 2)
unfolding line_of answer
line_of_frame l r h e = ap answer (spelt_frame l (pairs l) r (frame_of l h e)) ∙ ap Frame (length_pairs l)

-- ---- what the answer tells
pub spelt_as_frame : (l : List ℕ) (n : ℕ) → line_of l ≡ Frame n → (spelt l ≡ framed (pairs l)) × (length (pairs l) ≡ n)
unfolding line_of answer
spelt_as_frame l n e = go (spelt l) refl
  where
    go : (m : Meaning) → spelt l ≡ m → (spelt l ≡ framed (pairs l)) × (length (pairs l) ≡ n)
    go remarked q = let s : Remark ≡ Frame n = rw (q, answer) at e in let z : ◌≡◌ {A = ℕ} 0 1 = cc in absurd (omega arith)
    go broken q = let s : Broken ≡ Frame n = rw (q, answer) at e in let z : ◌≡◌ {A = ℕ} 0 1 = cc in absurd (omega arith)
    go (framed f) q =
        let s : Frame (length f) ≡ Frame n = rw (q, answer) at e in
        let k : length f ≡ n = cc in
        let p : f ≡ pairs l = sym (frame_some l f (spelt_framed l f q)).1 in
        (q ∙ ap framed p, ap length (sym p) ∙ k)

pub spelt_as_remark : (l : List ℕ) → line_of l ≡ Remark → spelt l ≡ remarked
unfolding line_of answer
spelt_as_remark l e = go (spelt l) refl
  where
    go : (m : Meaning) → spelt l ≡ m → spelt l ≡ remarked
    go remarked q = q
    go broken q = let s : Broken ≡ Remark = rw (q, answer) at e in let z : ◌≡◌ {A = ℕ} 0 1 = cc in absurd (omega arith)
    go (framed f) q = let s : Frame (length f) ≡ Remark = rw (q, answer) at e in let z : ◌≡◌ {A = ℕ} 0 1 = cc in absurd (omega arith)

pub spelt_as_broken : (l : List ℕ) → line_of l ≡ Broken → spelt l ≡ broken
unfolding line_of answer
spelt_as_broken l e = go (spelt l) refl
  where
    go : (m : Meaning) → spelt l ≡ m → spelt l ≡ broken
    go broken q = q
    go remarked q = let s : Remark ≡ Broken = rw (q, answer) at e in let z : ◌≡◌ {A = ℕ} 0 1 = cc in absurd (omega arith)
    go (framed f) q = let s : Frame (length f) ≡ Broken = rw (q, answer) at e in let z : ◌≡◌ {A = ℕ} 0 1 = cc in absurd (omega arith)
