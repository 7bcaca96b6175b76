-- The instruction of a frame whose fields are in range is in range.
use Prim.Native.Nat.{ℕ, ◌+◌, ◌≤◌, ◌<◌, ◌^◌}
use native.Mathlib.Omega.{arith}
use mathlib.Core.Path.{◌≡◌, refl}
use mathlib.Core.Bool.{Bool, true, false, cond, ◌&&◌, ◌||◌}
use lib.Dec.{eqb, leb, ltb}
use borrow.Author.Tests.{eqb-true, leb-true, ltb-true, ne_eqb}
use Rattle.spec_file.proofs.FrameTerms.{Bytes}
use Rattle.spec_file.specs.declared.instruction.Operand.TheVariants.{Constant, Register}
use Rattle.spec_file.specs.declared.kind.Kind.{Kind}
use Rattle.spec_file.specs.Kinds.{kinds, lookup, kind_of}
use Rattle.spec_file.specs.Frames.{Frame, byte, word, kind, register_fits, location_fits, skip_fits, operand_fits, in_range, operand, build_own, build, instruction}
use Rattle.spec_file.specs.WellFormed.{InRange, OperandInRange}
use Rattle.spec_file.proofs.DigitValues.{both}
use Rattle.spec_file.proofs.Tests.{second}
use Rattle.spec_file.proofs.InstructionFrames.{IsInstruction, codes, by_code, instruction_at}
use Rattle.spec_file.proofs.Pairs.{bytes_at}

-- what the fields of a frame of this kind are, where the kind has them
record Fits (f : Frame) (k : Kind) : Type 0 where
  register : eqb k.register 0 ≡ false → byte f k.register < 4
  location : eqb k.location 0 ≡ false → byte f k.location < 8
  first : eqb k.first 0 ≡ false → OperandInRange (operand f k.first)
  second_operand : eqb k.second 0 ≡ false → OperandInRange (operand f k.second)
  skip : eqb k.skip 0 ≡ false → (1 ≤ byte f k.skip) × (byte f k.skip ≤ 15)

pub word_below : (f : Frame) (i : ℕ) → Bytes f → word f i < 2 ^ 32
unfolding word
word_below f i h = omega (arith, bytes_at f i h, bytes_at f (i + 1) h, bytes_at f (i + 2) h, bytes_at f (i + 3) h)

-- an operand is a register below 4, or a constant of four bytes
operand_range : (f : Frame) (i : ℕ) → Bytes f → operand_fits f i ≡ true → eqb i 0 ≡ false → OperandInRange (operand f i)
unfolding operand_fits operand
operand_range f i h o z = go (eqb (byte f i) 1) refl
  where
    fits : (eqb (byte f i) 0 || (eqb (byte f i) 1 && ltb (word f (i + 1)) 4)) ≡ true
    fits = second (eqb i 0) _ o z

    go : (t : Bool) → eqb (byte f i) 1 ≡ t → OperandInRange (cond t (Register (word f (i + 1))) (Constant (word f (i + 1))))
    go true e =
        let one : byte f i ≡ 1 = eqb-true (byte f i) 1 e in
        let r = second (eqb (byte f i) 0) _ fits (ne_eqb (byte f i) 0 (λ q. omega arith)) in
        ltb-true (word f (i + 1)) 4 (both (eqb (byte f i) 1) (ltb (word f (i + 1)) 4) r).1
    go false e = word_below f (i + 1) h

fits : (f : Frame) → Bytes f → in_range f ≡ true → Fits f (kind f)
unfolding in_range register_fits location_fits skip_fits
fits f h e =
    let k : Kind = kind f in
    let r = both (register_fits f k.register) _ e in
    let l = both (location_fits f k.location) _ r.1 in
    let p = both (operand_fits f k.first) _ l.1 in
    let q = both (operand_fits f k.second) (skip_fits f k.skip) p.1 in
    record {
      register = λ z. ltb-true (byte f k.register) 4 (second (eqb k.register 0) _ r.0 z);
      location = λ z. ltb-true (byte f k.location) 8 (second (eqb k.location 0) _ l.0 z);
      first = operand_range f k.first h p.0;
      second_operand = operand_range f k.second h q.0;
      skip = λ z.
          let b = both (leb 1 (byte f k.skip)) (leb (byte f k.skip) 15) (second (eqb k.skip 0) _ q.1 z) in
          (leb-true 1 (byte f k.skip) b.0, leb-true (byte f k.skip) 15 b.1);
    }

pub instruction_in_range : (f : Frame) → IsInstruction f → Bytes f → in_range f ≡ true → InRange (instruction f)
unfolding instruction instruction_at kind codes build_own build kind_of lookup kinds
instruction_in_range f i h e =
    by_code f i
    (λ b. Fits f (kind_of b) → InRange (instruction_at f b)) (
      λ z. (z.location refl, z.first refl),
      (
        λ z. (z.register refl, z.location refl),
        (
          λ z. (z.register refl, z.location refl, z.first refl),
          (
            λ z. (z.register refl, z.location refl, z.first refl, z.second_operand refl),
            (
              λ z. (z.register refl, z.first refl),
              (
                λ z. (z.register refl, z.first refl),
                (
                  λ z. ((z.register refl, z.first refl), (z.skip refl).0, (z.skip refl).1),
                  (
                    λ z. (z.register refl, z.first refl),
                    (
                      λ z. ((z.register refl, z.first refl), (z.skip refl).0, (z.skip refl).1),
                      (
                        λ z. (z.register refl, z.first refl),
                        tt,
                      ),
                    ),
                  ),
                ),
              ),
            ),
          ),
        ),
      ),
    )
    (fits f h e)
