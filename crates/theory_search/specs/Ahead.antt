-- What a thread could still do, seen from the code that is left to it: whether its next access could write, and whether any access that is
-- left could conflict with one at a given location. A skip may leave some of them out; they are counted all the same.
use Rattle.std.specs.Prelude.{ℕ, Bool, true, false, not, ◌&&◌, ◌||◌, List, [], ◌∷◌, eqb}
use Rattle.spec_file.specs.declared.instruction.Operand.{Operand}
use Rattle.spec_file.specs.declared.instruction.Operand.TheVariants.{Constant, Register}
use Rattle.spec_file.specs.declared.instruction.Access.{Access}
use Rattle.spec_file.specs.declared.instruction.Access.TheVariants.{Store, Load, FetchAdd, CompareSwap}
use Rattle.spec_file.specs.declared.instruction.Instruction.{Instruction}
use Rattle.spec_file.specs.declared.instruction.Instruction.TheVariants.{Memory, Alone}
use Rattle.spec_schedules.specs.Lists.{any}
use Rattle.spec_sc.specs.Local.{Local, access_place}

-- whether an operand could be other than zero; a register could, whatever it holds now
unfoldable pub could_add : Operand → Bool
could_add (Constant v) = not (eqb v 0)
could_add (Register k) = true

-- whether an access could write; a compare and swap could, and a fetch and add unless it adds a constant zero
unfoldable pub access_may_write : Access → Bool
access_may_write (Store l p) = true
access_may_write (Load r l) = false
access_may_write (FetchAdd r l p) = could_add p
access_may_write (CompareSwap r l e v) = true

-- whether this code's first access could write
unfoldable pub first_may_write : List Instruction → Bool
first_may_write [] = false
first_may_write (Memory a ∷ is) = access_may_write a
first_may_write (Alone o ∷ is) = false

-- whether the thread's next access could write
unfoldable pub may_write : Local → Bool
may_write h = first_may_write h.rest

-- whether this instruction could conflict with an access at l, which could write (w) or only reads
unfoldable pub could_conflict : ℕ → Bool → Instruction → Bool
could_conflict l w (Memory a) = eqb (access_place a) l && (access_may_write a || w)
could_conflict l w (Alone o) = false

-- whether anything that is left to the thread could
unfoldable pub could_meet : ℕ → Bool → Local → Bool
could_meet l w h = any (could_conflict l w) h.rest
