-- `run_out` makes the last running thread's steps, and adds the row. The invariant: the thread stands behind a prefix that has grown by its own
-- steps, of which there is room for 24, and whether something failed before is as it was.
use Rattle.std.proofs.Common.{ℕ, ◌-◌, ◌≤◌, ◌≡◌, List, length}
use Rattle.spec_file.specs.Program.{Program}
use Rattle.spec_schedules.specs.Order.{Schedule}
use Rattle.search_place.specs.Reached.{Reached}
use Rattle.search_place.specs.declared.place.Place.{Place}
use Rattle.search_tail.specs.Runner.{RunnerOf}
use Rattle.search_tail.proofs.RunOut.{Running}
use Rattle.search_tail.proofs.alone.run_out.Given as goal

abbrev pub invariant-loop-k : goal.invariant-loop-k
invariant-loop-k l =
    (length l.k.schedule ≡ 24) × (l.k.steps ≤ 24) × (l.k.failed ≡ l.initial.k.failed)
    × ((class : List ℕ) (threads groups : ℕ) (x : Place) (p : Program) (v : Schedule) → Reached l.program.code l.program.lengths class threads groups x p v → RunnerOf x l.t l.initial.k
    → Running l.program.code l.program.lengths class threads groups x p v l.t l.k)

abbrev pub decreases-loop-k : goal.decreases-loop-k
decreases-loop-k l = 24 - l.k.steps
