-- What carrying out a schedule leaves.
use Rattle.std.specs.Prelude.{ℕ, ◌≤◌, ◌≡◌, List, length, take, Ok}
use Rattle.spec_file.specs.Program.{Program}
use Rattle.spec_schedules.specs.Order.{Schedule}
use Rattle.spec_schedules.specs.System.{run, Allowed}
use Rattle.spec_model.specs.Answers.{refuses_from}
use Rattle.graph_writer.specs.Notes.{Noted}
use Rattle.machine_replay.specs.Carried.{refusal_of}
use Rattle.spec_tso.specs.State.{TSO, start}
use Rattle.tso_machine.specs.Held.{Holds}
use Rattle.tso_replay.specs.declared.replaying.Run.{Run}
use Rattle.tso_replay.specs.Noted.{notes}

-- what carrying out a schedule leaves: the steps that were made, each of which might be and stands in the run's own schedule, the state
-- behind them, their notes, and the answer
pub record HoldsRun (code lengths : List ℕ) (p : Program) (s : Schedule) (r : Run) : Type 0 where
  pub counted : r.steps ≤ length s
  pub few : r.steps ≤ 32
  pub schedule : take r.steps r.schedule ≡ take r.steps s
  pub allowed : Allowed TSO (start p) (take r.steps s)
  pub holds : Holds code lengths r.machine (run TSO (start p) (take r.steps s))
  pub notes_counted : r.notes ≡ length (notes (start p) (take r.steps s))
  pub noted : Noted r.log (notes (start p) (take r.steps s))
  pub answer : refusal_of r.end ≡ refuses_from TSO 0 (start p) s
  pub all : r.end ≡ Ok tt → take r.steps s ≡ s
