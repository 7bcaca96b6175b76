-- What carrying out a schedule leaves.
use Rattle.std.specs.Prelude.{ℕ, ◌≤◌, ◌≡◌, List, length, take, Result, Ok, Err, ⊤}
use Rattle.std.proofs.Math.Option.{Option, none, some}
use Rattle.spec_file.specs.declared.refusal.Refusal.{Refusal}
use Rattle.spec_file.specs.Program.{Program}
use Rattle.spec_schedules.specs.Order.{Schedule}
use Rattle.spec_schedules.specs.System.{run, Allowed}
use Rattle.spec_sc.specs.State.{State, SC, start}
use Rattle.spec_sc.specs.Replay.{Replayed, whole, refused, replay}
use Rattle.graph_writer.specs.Notes.{notes, Noted}
use Rattle.machine.specs.Held.{Holds}
use Rattle.machine_replay.specs.declared.replaying.Run.{Run}

-- what the end of a run that led to this state says of its schedule
unfoldable pub verdict_of : Result ⊤ Refusal → State → Replayed
verdict_of (Ok _) σ = whole σ
verdict_of (Err r) σ = refused r.number r.place

-- what refuses the schedule, by the run's end
unfoldable pub refusal_of : Result ⊤ Refusal → Option (ℕ × ℕ)
refusal_of (Ok _) = none
refusal_of (Err r) = some (r.number, r.place)

-- what carrying out a schedule leaves: the steps that were made, each of which might be and stands in the run's own schedule, the state
-- behind them, their notes, and the answer
pub record HoldsRun (code lengths : List ℕ) (p : Program) (s : Schedule) (r : Run) : Type 0 where
  pub counted : r.steps ≤ length s
  pub schedule : take r.steps r.schedule ≡ take r.steps s
  pub allowed : Allowed SC (start p) (take r.steps s)
  pub holds : Holds code lengths r.machine (run SC (start p) (take r.steps s))
  pub noted : Noted r.log (notes (start p) (take r.steps s))
  pub answer : verdict_of r.end (run SC (start p) (take r.steps s)) ≡ replay p s
  pub all : r.end ≡ Ok tt → take r.steps s ≡ s
