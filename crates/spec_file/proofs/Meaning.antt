-- What a line says, by its first byte and its digits, and what the reader's answer tells of it.
use Prim.Native.Nat.{ℕ, ◌<◌}
use native.Mathlib.Omega.{arith}
use mathlib.Core.Path.{◌≡◌, refl, ◌∙◌, ap}
use mathlib.Core.Bool.{Bool, true, false}
use mathlib.Core.List.{List, [], ◌∷◌}
use mathlib.Core.Option.{Option, none, some}
use lib.ListN.{length, get_or}
use borrow.Author.Tests.{eq-eqb, ne_eqb}
use Rattle.spec_file.specs.Frame.{frame}
use Rattle.spec_file.proofs.FrameTerms.{Bytes}
use Rattle.spec_file.specs.TextLines.{TextLine}
use Rattle.spec_file.specs.Meaning.{remark, remarked, framed, broken, spelt, meaning}
use Rattle.spec_file.proofs.Frame.{frame_bytes}

-- ---- what bytes in front of a 0a say
pub spelt_empty : (l : List ℕ) → length l ≡ 0 → spelt l ≡ broken
unfolding spelt frame remark
spelt_empty [] e = refl
spelt_empty (x ∷ l) e = absurd (omega arith)

pub is_remark : (l : List ℕ) → 0 < length l → get_or l 0 0 ≡ 0x23 → remark l ≡ true
unfolding remark
is_remark [] h e = absurd (omega arith)
is_remark (x ∷ l) h e = eq-eqb x 0x23 e

pub no_remark : (l : List ℕ) → (get_or l 0 0 ≡ 0x23 → ⊥) → remark l ≡ false
unfolding remark
no_remark [] h = refl
no_remark (x ∷ l) h = ne_eqb x 0x23 h

pub spelt_remark : (l : List ℕ) → remark l ≡ true → spelt l ≡ remarked
unfolding spelt
spelt_remark l e = rw e

pub spelt_frame : (l f : List ℕ) → remark l ≡ false → frame l ≡ some f → spelt l ≡ framed f
unfolding spelt
spelt_frame l f e q = rw (e, q, spelt)

pub spelt_broken : (l : List ℕ) → remark l ≡ false → frame l ≡ none → spelt l ≡ broken
unfolding spelt
spelt_broken l e q = rw (e, q, spelt)

-- what bytes that say a frame are
pub spelt_framed : (l f : List ℕ) → spelt l ≡ framed f → frame l ≡ some f
unfolding spelt
spelt_framed l f e = go (remark l) refl (frame l) refl
  where
    go : (b : Bool) → remark l ≡ b → (o : Option (List ℕ)) → frame l ≡ o → frame l ≡ some f
    go true q o r = let s : remarked ≡ framed f = rw (q, spelt) at e in let z : ◌≡◌ {A = ℕ} 0 1 = cc in absurd (omega arith)
    go false q none r = let s : broken ≡ framed f = rw (q, r, spelt) at e in let z : ◌≡◌ {A = ℕ} 0 1 = cc in absurd (omega arith)
    go false q (some g) r = let s : framed g ≡ framed f = rw (q, r, spelt) at e in let k : g ≡ f = cc in r ∙ ap some k

-- ---- what a line of a text says
pub framed_frame : (l : TextLine) (f : List ℕ) → meaning l ≡ framed f → frame l.bytes ≡ some f
unfolding meaning
framed_frame l f e = go l.ended refl
  where
    go : (b : Bool) → l.ended ≡ b → frame l.bytes ≡ some f
    go true q = spelt_framed l.bytes f (rw q at e)
    go false q = let s : broken ≡ framed f = rw q at e in let z : ◌≡◌ {A = ℕ} 0 1 = cc in absurd (omega arith)

pub framed_bytes : (l : TextLine) (f : List ℕ) → meaning l ≡ framed f → Bytes f
framed_bytes l f e = frame_bytes l.bytes f (framed_frame l f e)
