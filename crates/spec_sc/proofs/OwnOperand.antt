-- OPERANDS ARE READ BEFORE THE REGISTER CHANGES: where an instruction's operand is the register that it sets, the value from before it is taken;
-- behind it the register holds what was read.
use Prim.Native.Nat.{ℕ, ◌<◌}
use mathlib.Core.Path.{◌≡◌, refl, ap, ◌∙◌}
use mathlib.Core.Bool.{cond}
use mathlib.Core.List.{List, ◌∷◌}
use mathlib.Core.Option.{none, some}
use lib.Dec.{eqb}
use lib.ListN.{length, get_or, set}
use lib.Seq.{get_or-set_same}
use Rattle.spec_file.specs.declared.instruction.Operand.TheVariants.{Register}
use Rattle.spec_file.specs.declared.instruction.Access.TheVariants.{FetchAdd, CompareSwap}
use Rattle.spec_file.specs.declared.instruction.Own.TheVariants.{AddAssign}
use Rattle.spec_file.specs.declared.instruction.Instruction.{Instruction}
use Rattle.spec_file.specs.declared.instruction.Instruction.TheVariants.{Memory}
use Rattle.spec_sc.specs.Local.{Local, eval, sum32, access_puts, access_sets, first_puts, puts, continues, outcome}

-- a fetch and add of its own register adds the value from before
pub adds_own : (h : Local) (r l x : ℕ) (rest : List Instruction) → h.rest ≡ Memory (FetchAdd r l (Register r)) ∷ rest →
    let old = get_or h.registers r 0 in
    puts h x ≡ cond (eqb old 0) none (some (sum32 x old))
unfolding eval access_puts first_puts puts
adds_own h r l x rest e = rw e

-- a compare and swap of its own register compares and writes the value from before
pub swaps_own : (h : Local) (r l x : ℕ) (rest : List Instruction) → h.rest ≡ Memory (CompareSwap r l (Register r) (Register r)) ∷ rest →
    let old = get_or h.registers r 0 in
    puts h x ≡ cond (eqb x old) (some old) none
unfolding eval access_puts first_puts puts
swaps_own h r l x rest e = rw e

-- behind either the register holds what was read
pub holds_read : (rs : List ℕ) (r l x : ℕ) → r < length rs →
    (get_or (access_sets rs (FetchAdd r l (Register r)) x) r 0 ≡ x) × (get_or (access_sets rs (CompareSwap r l (Register r) (Register r)) x) r 0 ≡ x)
unfolding access_sets
holds_read rs r l x h = (get_or-set_same rs r x 0 h, get_or-set_same rs r x 0 h)

-- a register added to itself is doubled
pub doubles : (rs : List ℕ) (r : ℕ) → outcome rs (AddAssign r (Register r)) ≡ continues (set rs r (sum32 (get_or rs r 0) (get_or rs r 0))) 0
unfolding eval outcome
doubles rs r = refl
