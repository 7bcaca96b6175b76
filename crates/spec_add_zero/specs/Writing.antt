-- The machine with events, for any account of what an access writes: the amended one, and document 01's first, by which a fetch and add of
-- zero wrote as any other does.
use Rattle.std.specs.Prelude.{ℕ, cond, List, [], ◌∷◌, map, eqb, set}
use Rattle.std.proofs.Math.Option.{Option, none, some}
use Rattle.spec_file.specs.declared.instruction.Access.{Access}
use Rattle.spec_file.specs.declared.instruction.Access.TheVariants.{Store, Load, FetchAdd, CompareSwap}
use Rattle.spec_file.specs.declared.instruction.Instruction.{Instruction}
use Rattle.spec_file.specs.declared.instruction.Instruction.TheVariants.{Memory, Alone}
use Rattle.spec_schedules.specs.Lists.{range}
use Rattle.spec_schedules.specs.System.{System}
use Rattle.spec_sc.specs.Local.{Local, eval, sum32}
use Rattle.spec_sc.specs.State.{Thread, Cell, State, thread_of, cell_of, place, advanced, written, enabled, size, value_of}
use Rattle.spec_add_zero.specs.Values.{Values}

-- what the next access of a thread writes on finding a value, if anything
abbrev pub Writing : Type 0
Writing = Local → ℕ → Option ℕ

-- a step of thread t: as the machine's own, but for what is written
unfoldable pub step_by : Writing → State → ℕ → State
step_by w σ t =
    let h = thread_of σ t in
    let c = cell_of σ (place σ t) in
    record {
      threads = set σ.threads t (advanced h c);
      cells = set σ.cells (place σ t) (written (t, h.history.done) (w h.local c.value) c);
    }

abbrev pub By : Writing → System
By w = record { State = State; enabled = enabled; step = step_by w; names = range 0 6; size = size }

-- document 01's first words: a fetch and add writes the sum, whatever it adds
unfoldable pub access_put_first : List ℕ → Access → ℕ → Option ℕ
access_put_first rs (Store l p) x = some (eval rs p)
access_put_first rs (Load r l) x = none
access_put_first rs (FetchAdd r l p) x = some (sum32 x (eval rs p))
access_put_first rs (CompareSwap r l e v) x = cond (eqb x (eval rs e)) (some (eval rs v)) none

unfoldable pub code_put_first : List ℕ → List Instruction → ℕ → Option ℕ
code_put_first rs [] x = none
code_put_first rs (Memory a ∷ is) x = access_put_first rs a x
code_put_first rs (Alone o ∷ is) x = none

unfoldable pub put_first : Local → ℕ → Option ℕ
put_first h x = code_put_first h.registers h.rest x

-- what a state is by its values alone
unfoldable pub local_of : Thread → Local
local_of h = h.local

unfoldable pub values_of : State → Values
values_of σ = record { threads = map local_of σ.threads; memory = map value_of σ.cells }
