-- Only frames of `22` and `24` skip.
use Prim.Native.Nat.{ℕ}
use mathlib.Core.Path.{◌≡◌, refl, ◌∙◌, ap, sym}
use mathlib.Core.Bool.{Bool, true, false, ◌||◌, or-false}
use lib.Dec.{eqb}
use borrow.Author.Tests.{ne_eqb}
use Rattle.spec_file.specs.declared.kind.Kind.{Kind}
use Rattle.spec_file.specs.Kinds.{kinds, lookup, kind_of}
use Rattle.spec_file.specs.Frames.{Frame, byte, kind, skip_of}
use Rattle.spec_file.proofs.KindTable.{every_row, kind_rule, kind_byte}

skips : Kind → Bool
skips k = eqb k.skip 0 || (eqb k.byte 0x22 || eqb k.byte 0x24)

pub no_skip : (f : Frame) → (byte f 0 ≡ 0x22 → ⊥) → (byte f 0 ≡ 0x24 → ⊥) → skip_of f ≡ 0
unfolding skip_of kind every_row skips kinds
no_skip f h22 h24 =
    let t : skips (kind_of (byte f 0)) ≡ true = kind_rule skips (byte f 0) refl refl in
    let other : (k : ℕ) → (byte f 0 ≡ k → ⊥) → eqb (kind_of (byte f 0)).byte k ≡ false = λ k h. ap (λ (b : ℕ). eqb b k) (kind_byte (byte f 0)) ∙ ne_eqb (byte f 0) k h in
    let z : eqb (kind_of (byte f 0)).skip 0 ≡ true = sym (or-false (eqb (kind_of (byte f 0)).skip 0)) ∙ rw (other 0x22 h22, other 0x24 h24) at t in
    rw z

pub equal_skip : (f : Frame) → byte f 0 ≡ 0x22 → skip_of f ≡ byte f 7
unfolding skip_of kind kind_of lookup kinds
equal_skip f e = rw e

pub at_most_skip : (f : Frame) → byte f 0 ≡ 0x24 → skip_of f ≡ byte f 7
unfolding skip_of kind kind_of lookup kinds
at_most_skip f e = rw e
