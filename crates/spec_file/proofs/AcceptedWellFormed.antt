-- Every accepted program is well formed.
use Prim.Native.Nat.{ℕ, ◌+◌, ◌≤◌}
use native.Mathlib.Omega.{arith}
use mathlib.Core.Path.{◌≡◌, refl, subst}
use mathlib.Core.Bool.{Bool, true, false, cond}
use mathlib.Core.List.{List, [], ◌∷◌}
use lib.ListN.{length}
use lib.Dec.{eqb, ltb}
use borrow.Author.Tests.{eqb-true, eqb-false}
use Rattle.spec_file.specs.TextLines.{TextLine, split}
use Rattle.spec_file.specs.Meaning.{Meaning, remarked, framed, broken, meaning}
use Rattle.spec_file.specs.Program.{Program}
use Rattle.spec_file.specs.Frames.{Frame}
use Rattle.spec_file.specs.Decode.{Reading, fresh, frame_refusal, after, first_far_skip, program_in, Decoded, accepted, refused, finish, read_lines, decode}
use Rattle.spec_file.specs.WellFormed.{WellFormed}
use Rattle.spec_file.proofs.Meaning.{framed_bytes}
use Rattle.spec_file.proofs.SoundProgram.{sound_well_formed}
use Rattle.spec_file.proofs.Sound.{Sound, sound_fresh, sound_after}

-- ---- where a program is accepted, no test refused it
pub refused_first : (t : Bool) (k n : ℕ) (d : Decoded) (p : Program) → cond t (refused k n) d ≡ accepted p → (t ≡ false) × (d ≡ accepted p)
refused_first true k n d p e = let z : ◌≡◌ {A = ℕ} 0 1 = cc in absurd (omega arith)
refused_first false k n d p e = (refl, e)

pub refused_else : (t : Bool) (k n : ℕ) (d : Decoded) (p : Program) → cond t d (refused k n) ≡ accepted p → (t ≡ true) × (d ≡ accepted p)
refused_else true k n d p e = (refl, e)
refused_else false k n d p e = let z : ◌≡◌ {A = ℕ} 0 1 = cc in absurd (omega arith)

-- ---- what was read is sound to the end
finish_well_formed : (r : Reading) (p : Program) → Sound r → finish r ≡ accepted p → WellFormed p
unfolding finish
finish_well_formed r p s e =
    let a = refused_else (eqb (first_far_skip r.threads) 0) 7 (first_far_skip r.threads) (accepted (program_in r)) p e in
    let same : program_in r ≡ p = let q = a.1 in cc in
    subst WellFormed same (sound_well_formed r s (eqb-true (first_far_skip r.threads) 0 a.0))

lines_well_formed : (n : ℕ) (ls : List TextLine) (r : Reading) (p : Program) → 1 ≤ n → Sound r → read_lines n ls r ≡ accepted p → WellFormed p
unfolding read_lines
lines_well_formed n [] r p h s e = finish_well_formed r p s e
lines_well_formed n (l ∷ ls) r p h s e = go (meaning l) refl (lines_well_formed (n + 1) ls r p (omega arith) s) (λ f k. lines_well_formed (n + 1) ls (after n f r) p (omega arith) k)
  where
    go : (m : Meaning) → meaning l ≡ m
        → (read_lines (n + 1) ls r ≡ accepted p → WellFormed p)
        → ((f : Frame) → Sound (after n f r) → read_lines (n + 1) ls (after n f r) ≡ accepted p → WellFormed p)
        → WellFormed p
    go broken q past later = let k : refused 2 n ≡ accepted p = rw (q, read_lines) at e in let z : ◌≡◌ {A = ℕ} 0 1 = cc in absurd (omega arith)
    go remarked q past later = past (rw (q, read_lines) at e)
    go (framed f) q past later =
        let none-refused = eqb (frame_refusal r f) 0 in
        let rest = read_lines (n + 1) ls (after n f r) in
        let k : cond none-refused rest (refused (frame_refusal r f) n) ≡ accepted p = rw (q, read_lines) at e in
        let a = refused_else none-refused (frame_refusal r f) n rest p k in
        later f (sound_after n r f h (framed_bytes l f q) s (eqb-true (frame_refusal r f) 0 a.0)) a.1

pub accepted_well_formed : (file : List ℕ) (p : Program) → decode file ≡ accepted p → WellFormed p
unfolding decode
accepted_well_formed file p e =
    let k = refused_first (ltb 4096 (length file)) 1 0 (read_lines 1 (split file) fresh) p e in
    lines_well_formed 1 (split file) fresh p (omega arith) sound_fresh k.1
