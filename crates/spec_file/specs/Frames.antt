-- What a frame of a program file says: whether its kind and length are known, whether its fields are in range, and which instruction it is.
use Rattle.std.specs.Prelude.{ℕ, ◌+◌, ◌*◌, Bool, cond, ◌&&◌, ◌||◌, List, length, get_or, eqb, ltb, leb}
use Rattle.spec_file.specs.declared.instruction.Operand.{Operand}
use Rattle.spec_file.specs.declared.instruction.Operand.TheVariants.{Constant, Register}
use Rattle.spec_file.specs.declared.instruction.Access.TheVariants.{Store, Load, FetchAdd, CompareSwap}
use Rattle.spec_file.specs.declared.instruction.Comparison.{Comparison}
use Rattle.spec_file.specs.declared.instruction.Comparison.TheVariants.{Equal, AtMost}
use Rattle.spec_file.specs.declared.instruction.Test.{Test}
use Rattle.spec_file.specs.declared.instruction.Own.{Own}
use Rattle.spec_file.specs.declared.instruction.Own.TheVariants.{Assign, AddAssign, SkipUnless, Assert}
use Rattle.spec_file.specs.declared.instruction.Instruction.{Instruction}
use Rattle.spec_file.specs.declared.instruction.Instruction.TheVariants.{Memory, Alone}
use Rattle.spec_file.specs.declared.kind.Kind.{Kind}
use Rattle.spec_file.specs.Kinds.{kind_of}

abbrev pub Frame : Type 0
Frame = List ℕ

-- the byte at a position, and the four bytes from there on as one number, most significant first
abbrev pub byte : Frame → ℕ → ℕ
byte f i = get_or f i 0

unfoldable pub word : Frame → ℕ → ℕ
word f i = ((byte f i * 256 + byte f (i + 1)) * 256 + byte f (i + 2)) * 256 + byte f (i + 3)

-- the kind that the first byte names
unfoldable pub kind : Frame → Kind
kind f = kind_of (byte f 0)

-- refusal 3: the first byte is in the table and the length is of its kind
unfoldable pub known : Frame → Bool
known f = leb (kind f).least (length f) && leb (length f) (kind f).most

-- refusal 4: r below 4, l below 8, n from 1 to 15, an operand 00 and a constant, or 01 and a register below 4; a field that the kind lacks
-- is in range
unfoldable pub register_fits : Frame → ℕ → Bool
register_fits f i = eqb i 0 || ltb (byte f i) 4

unfoldable pub location_fits : Frame → ℕ → Bool
location_fits f i = eqb i 0 || ltb (byte f i) 8

unfoldable pub skip_fits : Frame → ℕ → Bool
skip_fits f i = eqb i 0 || (leb 1 (byte f i) && leb (byte f i) 15)

unfoldable pub operand_fits : Frame → ℕ → Bool
operand_fits f i = eqb i 0 || (eqb (byte f i) 0 || (eqb (byte f i) 1 && ltb (word f (i + 1)) 4))

unfoldable pub in_range : Frame → Bool
in_range f =
    register_fits f (kind f).register
    && (location_fits f (kind f).location
    && (operand_fits f (kind f).first && (operand_fits f (kind f).second && skip_fits f (kind f).skip)))

-- the three kinds that are no instruction, and the four that are accesses
unfoldable pub opens : Frame → Bool
opens f = eqb (byte f 0) 0x01

unfoldable pub declares : Frame → Bool
declares f = eqb (byte f 0) 0x02

unfoldable pub starts : Frame → Bool
starts f = eqb (byte f 0) 0x03

unfoldable pub is_access : Frame → Bool
is_access f = leb 0x10 (byte f 0) && leb (byte f 0) 0x13

-- how many instructions it may skip; 0 for a kind that skips none
unfoldable pub skip_of : Frame → ℕ
skip_of f = cond (eqb (kind f).skip 0) 0 (byte f (kind f).skip)

-- an operand: 01 and a register number, or else a constant
unfoldable pub operand : Frame → ℕ → Operand
operand f i = cond (eqb (byte f i) 1) (Register (word f (i + 1))) (Constant (word f (i + 1)))

-- r compared with p
abbrev pub test : Comparison → ℕ → Operand → Test
test c r p = record { comparison = c; register = r; operand = p }

-- the instruction of a first byte with these fields
unfoldable pub build_own : ℕ → ℕ → Operand → ℕ → Own
build_own b r p n =
    cond (eqb b 0x20) (Assign r p)
    (cond (eqb b 0x21) (AddAssign r p)
    (cond (eqb b 0x22) (SkipUnless (test Equal r p) n)
    (cond (eqb b 0x23) (Assert (test Equal r p))
    (cond (eqb b 0x24) (SkipUnless (test AtMost r p) n)
    (Assert (test AtMost r p))))))

unfoldable pub build : ℕ → ℕ → ℕ → Operand → Operand → ℕ → Instruction
build b r l p q n =
    cond (eqb b 0x10) (Memory (Store l p))
    (cond (eqb b 0x11) (Memory (Load r l))
    (cond (eqb b 0x12) (Memory (FetchAdd r l p))
    (cond (eqb b 0x13) (Memory (CompareSwap r l p q))
    (Alone (build_own b r p n)))))

unfoldable pub instruction : Frame → Instruction
instruction f =
    build (byte f 0)
    (byte f (kind f).register) (byte f (kind f).location)
    (operand f (kind f).first) (operand f (kind f).second)
    (byte f (kind f).skip)
