-- An access as the code does it: where it goes, whether it reads, what it writes, and the thread behind it.
use Rattle.std.proofs.Common.{◌≡◌, ℕ, true, cond, List, ◌∷◌, get_or, refl}
use mathlib.Core.Bool.{false≢true}
use mathlib.Core.Option.{Option, none, some}
use Rattle.spec_file.specs.declared.instruction.Instruction.{Instruction}
use Rattle.spec_file.specs.declared.instruction.Instruction.TheVariants.{Memory, Alone}
use Rattle.machine_access.specs.declared.accessing.Access.{Access}
use Rattle.spec_sc.specs.Local.{Local, access_place, access_puts, settle, begins_with_access, first_place, first_takes, first_puts, first_next}
use Rattle.spec_sc.specs.Actions.{given}
use Rattle.machine_access.specs.CarriedOut.{value_in, access_of}

-- a is what the access x, before the instructions is, does in the thread h on this memory
pub record Meets (h : Local) (x : Instruction) (is : List Instruction) (m : List ℕ) (a : Access) : Type 0 where
  pub place : first_place (x ∷ is) ≡ a.location
  pub reads : first_takes (x ∷ is) ≡ a.reads
  pub puts : first_puts h.registers (x ∷ is) (get_or m a.location 0) ≡ cond a.writes (some a.value) none
  pub wrote : given (first_puts h.registers (x ∷ is) (get_or m a.location 0)) ≡ a.writes
  pub next : first_next h (x ∷ is) (get_or m a.location 0) ≡ settle 0 a.registers is

-- whether something is written, and what, say all of what is written
put_again : (o : Option ℕ) → o ≡ cond (given o) (some (value_in o)) none
unfolding given
put_again none = refl
put_again (some v) = refl

pub access_meets : (h : Local) (x : Instruction) (is : List Instruction) (m : List ℕ) → begins_with_access (x ∷ is) ≡ true → Meets h x is m (access_of x h.registers m)
unfolding begins_with_access first_place first_takes first_puts first_next
access_meets h (Memory a) is m b = record { place = refl; reads = refl; puts = put_again (access_puts h.registers a (get_or m (access_place a) 0)); wrote = refl; next = refl }
access_meets h (Alone o) is m b = absurd (false≢true b)
