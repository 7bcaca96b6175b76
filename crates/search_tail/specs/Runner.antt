-- The last running thread: how it is held, and where nothing branches any more.
use Rattle.std.specs.Prelude.{ℕ, ◌≡◌, ◌⊎◌, Bool, true, false, get_or}
use Rattle.spec_file.specs.Program.{Program}
use Rattle.spec_schedules.specs.Order.{Schedule}
use Rattle.spec_schedules.specs.System.{ended}
use Rattle.spec_sc.specs.State.{SC}
use Rattle.spec_sc.specs.Graph.{end_of}
use Rattle.machine.specs.Held.{idle}
use Rattle.theory_sc.specs.LateSet.{late_set}
use Rattle.theory_sc.specs.Sleepers.{sleepers}
use Rattle.theory_sc.specs.Alone.{Alone}
use Rattle.search_place.specs.declared.place.Place.{Place}
use Rattle.search_tail.specs.declared.alone.Runner.{Runner}

-- r holds thread t of the place x, its memory and its steps
pub record RunnerOf (x : Place) (t : ℕ) (r : Runner) : Type 0 where
  pub thread : get_or x.threads t idle ≡ r.thread
  pub memory : x.memory ≡ r.memory
  pub schedule : x.schedule ≡ r.schedule
  pub steps : x.steps ≡ r.steps

-- behind v all have ended, or, apart from the bound, t alone has not, and none is asleep for good
abbrev pub Settled : Program → Schedule → ℕ → Bool → Type 0
Settled p v t tight =
    (ended SC (end_of p v) ≡ true)
    ⊎ ((tight ≡ false) × Alone (end_of p v) t × (sleepers (end_of p v) (late_set p v) ≡ 0))
