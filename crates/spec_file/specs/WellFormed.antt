-- What holds of every accepted program: the limits, ranges and groups that refusals 4 to 8 leave, and its eight starting values.
use Rattle.std.specs.Prelude.{ℕ, suc, ◌+◌, ◌≤◌, ◌<◌, ◌^◌, ◌≡◌, length, ltb}
use mathlib.Core.List.{List, [], ◌∷◌, Memᴰ}
use Rattle.spec_file.specs.Lists.{Ascends}
use Rattle.spec_file.specs.declared.instruction.Operand.{Operand}
use Rattle.spec_file.specs.declared.instruction.Operand.TheVariants.{Constant, Register}
use Rattle.spec_file.specs.declared.instruction.Access.{Access}
use Rattle.spec_file.specs.declared.instruction.Access.TheVariants.{Store, Load, FetchAdd, CompareSwap}
use Rattle.spec_file.specs.declared.instruction.Test.{Test}
use Rattle.spec_file.specs.declared.instruction.Own.{Own}
use Rattle.spec_file.specs.declared.instruction.Own.TheVariants.{Assign, AddAssign, SkipUnless, Assert}
use Rattle.spec_file.specs.declared.instruction.Instruction.{Instruction}
use Rattle.spec_file.specs.declared.instruction.Instruction.TheVariants.{Memory, Alone}
use Rattle.spec_file.specs.Program.{Program, code_of}

-- P holds of every member
abbrev pub Everywhere : {A : Type 0} → (A → Type 0) → List A → Type 0
Everywhere P [] = Unit {0}
Everywhere P (x ∷ xs) = P x × Everywhere P xs

-- a constant fits 32 bits, a register is one of the four
abbrev pub OperandInRange : Operand → Type 0
OperandInRange (Constant v) = v < 2 ^ 32
OperandInRange (Register k) = k < 4

-- registers below 4, locations below 8, a skip of 1 to 15, operands in range
abbrev pub AccessInRange : Access → Type 0
AccessInRange (Store l p) = (l < 8) × OperandInRange p
AccessInRange (Load r l) = (r < 4) × (l < 8)
AccessInRange (FetchAdd r l p) = (r < 4) × (l < 8) × OperandInRange p
AccessInRange (CompareSwap r l e v) = (r < 4) × (l < 8) × OperandInRange e × OperandInRange v

abbrev pub TestInRange : Test → Type 0
TestInRange t = (t.register < 4) × OperandInRange t.operand

abbrev pub OwnInRange : Own → Type 0
OwnInRange (Assign r p) = (r < 4) × OperandInRange p
OwnInRange (AddAssign r p) = (r < 4) × OperandInRange p
OwnInRange (SkipUnless t n) = TestInRange t × (1 ≤ n) × (n ≤ 15)
OwnInRange (Assert t) = TestInRange t

abbrev pub InRange : Instruction → Type 0
InRange (Memory a) = AccessInRange a
InRange (Alone o) = OwnInRange o

-- how many of these instructions are accesses
unfoldable pub accesses : List Instruction → ℕ
accesses [] = 0
accesses (Memory a ∷ is) = suc (accesses is)
accesses (Alone o ∷ is) = accesses is

-- the accesses of all threads
unfoldable pub all_accesses : List (List Instruction) → ℕ
all_accesses [] = 0
all_accesses (c ∷ cs) = accesses c + all_accesses cs

-- how many instructions an instruction may skip
abbrev pub most_skipped : Instruction → ℕ
most_skipped (Memory a) = 0
most_skipped (Alone (Assign r p)) = 0
most_skipped (Alone (AddAssign r p)) = 0
most_skipped (Alone (SkipUnless t n)) = n
most_skipped (Alone (Assert t)) = 0

-- each skip ends within the thread or just behind its last instruction
abbrev pub SkipsInside : List Instruction → Type 0
SkipsInside [] = Unit {0}
SkipsInside (i ∷ is) = (most_skipped i ≤ length is) × SkipsInside is

-- a `02` line of this program: two to six threads that exist, ascending, of equal code
pub record Group (p : Program) (g : List ℕ) : Type 0 where
  pub two : 2 ≤ length g
  pub six : length g ≤ 6
  pub ascend : Ascends ltb g
  pub exist : Everywhere (λ t. t < length p.threads) g
  pub equal : (t u : ℕ) → Memᴰ t g → Memᴰ u g → code_of p t ≡ code_of p u

-- no thread stands in two of the groups
abbrev pub Apart : List (List ℕ) → Type 0
Apart [] = Unit {0}
Apart (g ∷ gs) = Everywhere (λ h. (t : ℕ) → Memᴰ t g → Memᴰ t h → ⊥) gs × Apart gs

pub record WellFormed (p : Program) : Type 0 where
  pub six : length p.threads ≤ 6
  pub sixteen : Everywhere (λ c. length c ≤ 16) p.threads
  pub access_24 : all_accesses p.threads ≤ 24
  pub ranges : Everywhere (Everywhere InRange) p.threads
  pub skips : Everywhere SkipsInside p.threads
  pub groups : Everywhere (Group p) p.groups
  pub apart : Apart p.groups
  pub eight : length p.starting ≡ 8
  pub words : Everywhere (λ v. v < 2 ^ 32) p.starting
