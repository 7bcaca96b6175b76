-- `ran_out` makes the last running thread's steps. The invariant: the thread stands behind a prefix that has grown by its own steps, of which some
-- failed if the flag says so and it did not before.
use Rattle.std.proofs.Common.{ℕ, ◌-◌, ◌≡◌, List, length}
use Rattle.spec_file.specs.Program.{Program}
use Rattle.spec_schedules.specs.Order.{Schedule}
use Rattle.search_place.specs.Reached.{Reached}
use Rattle.search_place.specs.declared.place.Place.{Place}
use Rattle.search_tail.specs.Runner.{RunnerOf}
use Rattle.states_walk.proofs.LastNumbers.{Ran}
use Rattle.states_walk.proofs.alone.ran_out.Given as goal

abbrev pub invariant-loop-r : goal.invariant-loop-r
invariant-loop-r l =
    (length l.r.schedule ≡ 24)
    × ((class : List ℕ) (threads groups : ℕ) (x : Place) (p : Program) (v : Schedule) → Reached l.program.code l.program.lengths class threads groups x p v
    → RunnerOf x l.t l.initial.r → Ran l.program.code l.program.lengths class threads groups x p v l.t l.initial.r.failed l.r)

abbrev pub decreases-loop-r : goal.decreases-loop-r
decreases-loop-r l = 24 - l.r.steps
