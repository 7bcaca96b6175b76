-- A frame's instruction is read from its first 16 bytes, and so is the frame itself where its kind is known and not `02`.
use Prim.Native.Nat.{ℕ, ◌+◌, ◌<◌}
use native.Mathlib.Omega.{arith}
use mathlib.Core.Path.{◌≡◌, sym, ap, ◌∙◌}
use mathlib.Core.Bool.{true, false}
use lib.ListN.{length}
use lib.Seq.{ext_get_or}
use Rattle.spec_file.specs.declared.kind.Kind.{Kind}
use Rattle.spec_file.specs.Kinds.{kind_of}
use Rattle.spec_file.specs.Frames.{Frame, byte, word, kind, known, declares, operand, instruction}
use Rattle.spec_file.proofs.KindTable.{kind_bounds, known_length, known_13}

-- ---- two frames that agree on their first 16 bytes
module _ (f g : Frame) (same : (j : ℕ) → j < 16 → byte f j ≡ byte g j) where
  pub kind_same : kind f ≡ kind g
  unfolding kind
  kind_same = ap kind_of (same 0 (omega arith))

  pub word_same : (i : ℕ) → i < 13 → word f i ≡ word g i
  unfolding word
  word_same i h = rw (same i (omega arith), same (i + 1) (omega arith), same (i + 2) (omega arith), same (i + 3) (omega arith))

  pub operand_same : (i : ℕ) → i < 12 → operand f i ≡ operand g i
  unfolding operand
  operand_same i h = rw (same i (omega arith), word_same (i + 1) (omega arith))

  pub instruction_same : instruction f ≡ instruction g
  unfolding instruction kind
  instruction_same =
      let k = kind_bounds (byte g 0) in
      rw (
        kind_same,
        same 0 (omega arith),
        same (kind g).register (omega arith),
        same (kind g).location (omega arith),
        operand_same (kind g).first (omega arith),
        operand_same (kind g).second (omega arith),
        same (kind g).skip (omega arith),
      )

  pub sizes_same : known f ≡ true → known g ≡ true → declares f ≡ false → f ≡ g
  unfolding declares
  sizes_same kf kg d =
      let e : byte f 0 ≡ byte g 0 = same 0 (omega arith) in
      let lengths : length f ≡ length g =
      known_length f kf d ∙ ap (λ (k : Kind). k.most) kind_same ∙ sym (known_length g kg (rw (sym e) d)) in
      ext_get_or 0 f g lengths (λ i h. same i (omega (arith, known_13 f kf)))
