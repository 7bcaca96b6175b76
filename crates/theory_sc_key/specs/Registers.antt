-- LIVE REGISTERS: those that the code left may read before it writes them. Code has no loops, so they are worked out from its end backwards. What
-- any other register holds changes nothing that the thread does.
use Rattle.std.specs.Prelude.{ℕ, zero, suc, ◌≡◌, Bool, true, false, not, ◌&&◌, ◌||◌, List, [], ◌∷◌, eqb, length, get_or}
use Rattle.spec_file.specs.WellFormed.{most_skipped}
use Rattle.spec_file.specs.declared.instruction.Operand.{Operand}
use Rattle.spec_file.specs.declared.instruction.Operand.TheVariants.{Constant, Register}
use Rattle.spec_file.specs.declared.instruction.Access.TheVariants.{Store, Load, FetchAdd, CompareSwap}
use Rattle.spec_file.specs.declared.instruction.Test.{Test}
use Rattle.spec_file.specs.declared.instruction.Own.TheVariants.{Assign, AddAssign, SkipUnless, Assert}
use Rattle.spec_file.specs.declared.instruction.Instruction.{Instruction}
use Rattle.spec_file.specs.declared.instruction.Instruction.TheVariants.{Memory, Alone}
use Rattle.spec_sc.specs.Local.{Local}

unfoldable pub in_operand : Operand → ℕ → Bool
in_operand (Constant v) r = false
in_operand (Register k) r = eqb k r

unfoldable pub in_test : Test → ℕ → Bool
in_test t r = eqb t.register r || in_operand t.operand r

-- whether an instruction reads register r
unfoldable pub reads_register : Instruction → ℕ → Bool
reads_register (Memory (Store l p)) r = in_operand p r
reads_register (Memory (Load k l)) r = false
reads_register (Memory (FetchAdd k l p)) r = in_operand p r
reads_register (Memory (CompareSwap k l e v)) r = in_operand e r || in_operand v r
reads_register (Alone (Assign k p)) r = in_operand p r
reads_register (Alone (AddAssign k p)) r = eqb k r || in_operand p r
reads_register (Alone (SkipUnless t n)) r = in_test t r
reads_register (Alone (Assert t)) r = in_test t r

-- whether it writes register r
unfoldable pub writes_register : Instruction → ℕ → Bool
writes_register (Memory (Store l p)) r = false
writes_register (Memory (Load k l)) r = eqb k r
writes_register (Memory (FetchAdd k l p)) r = eqb k r
writes_register (Memory (CompareSwap k l e v)) r = eqb k r
writes_register (Alone (Assign k p)) r = eqb k r
writes_register (Alone (AddAssign k p)) r = eqb k r
writes_register (Alone (SkipUnless t n)) r = false
writes_register (Alone (Assert t)) r = false

-- whether register r is live before this code, of which so many instructions are skipped
unfoldable pub live : ℕ → List Instruction → ℕ → Bool
live k [] r = false
live (suc k) (i ∷ is) r = live k is r
live zero (i ∷ is) r = reads_register i r || (not (writes_register i r) && (live 0 is r || live (most_skipped i) is r))

-- as many registers, and the live ones hold the same
abbrev pub Agree : ℕ → List Instruction → List ℕ → List ℕ → Type 0
Agree k is rs ss = (length rs ≡ length ss) × ((r : ℕ) → live k is r ≡ true → get_or rs r 0 ≡ get_or ss r 0)

-- two local states that do the same from here on: the same code left, and the same in live registers
pub record Like (h k : Local) : Type 0 where
  pub rest : h.rest ≡ k.rest
  pub registers : Agree 0 h.rest h.registers k.registers
