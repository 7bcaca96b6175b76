-- A machine of values only: threads and memory, no events. An access finds a value, leaves a value and changes its thread; whether it
-- counts as a write is not asked.
use Rattle.std.specs.Prelude.{ℕ, ◌+◌, Bool, true, false, cond, List, [], ◌∷◌, map, eqb, ltb, get_or, set}
use Rattle.spec_file.specs.Program.{Program, initial}
use Rattle.spec_file.specs.WellFormed.{accesses}
use Rattle.spec_file.specs.declared.instruction.Access.{Access}
use Rattle.spec_file.specs.declared.instruction.Access.TheVariants.{Store, Load, FetchAdd, CompareSwap}
use Rattle.spec_file.specs.declared.instruction.Instruction.{Instruction}
use Rattle.spec_file.specs.declared.instruction.Instruction.TheVariants.{Memory, Alone}
use Rattle.spec_schedules.specs.Lists.{range}
use Rattle.spec_schedules.specs.System.{System}
use Rattle.spec_sc.specs.Local.{Local, eval, sum32, pending, place_of, next, begin}
use Rattle.spec_sc.specs.State.{no_thread}

-- what a location holds behind an access that found x: a load leaves x, a fetch and add the sum, also of zero
unfoldable pub access_leaves : List ℕ → Access → ℕ → ℕ
access_leaves rs (Store l p) x = eval rs p
access_leaves rs (Load r l) x = x
access_leaves rs (FetchAdd r l p) x = sum32 x (eval rs p)
access_leaves rs (CompareSwap r l e v) x = cond (eqb x (eval rs e)) (eval rs v) x

-- what a location holds behind the first access of this code, which found x
unfoldable pub first_leaves : List ℕ → List Instruction → ℕ → ℕ
first_leaves rs [] x = x
first_leaves rs (Memory a ∷ is) x = access_leaves rs a x
first_leaves rs (Alone o ∷ is) x = x

-- what a location holds behind the thread's next access, which found x
unfoldable pub leaves : Local → ℕ → ℕ
leaves h x = first_leaves h.registers h.rest x

-- registers, code left and failures of the threads; the values of memory
pub record Values : Type 0 where
  pub threads : List Local
  pub memory : List ℕ

-- thread t; one that does not exist has ended
unfoldable pub local_at : Values → ℕ → Local
local_at v t = get_or v.threads t no_thread.local

-- a step of thread t: its next access, then its instructions up to the next access
unfoldable pub step_of : Values → ℕ → Values
step_of v t =
    let h = local_at v t in
    let x = get_or v.memory (place_of h) 0 in
    record { threads = set v.threads t (next h x); memory = set v.memory (place_of h) (leaves h x) }

-- a thread may step while it has not ended; there are at most six
unfoldable pub may_step : Values → ℕ → Bool
may_step v t = elim (ltb t 6) [ true ↦ pending (local_at v t) | false ↦ false ]

-- the accesses left in the code of these threads
unfoldable pub accesses_left : List Local → ℕ
accesses_left [] = 0
accesses_left (h ∷ hs) = accesses h.rest + accesses_left hs

abbrev pub ByValues : System
ByValues = record { State = Values; enabled = may_step; step = step_of; names = range 0 6; size = λ v. accesses_left v.threads }

-- a program before its first step
unfoldable pub beginning : Program → Values
beginning p = record { threads = map begin p.threads; memory = initial p }

-- an outcome: the values of memory at the end, and whether an assertion failed
abbrev pub Outcome : Type 0
Outcome = List ℕ × Bool
