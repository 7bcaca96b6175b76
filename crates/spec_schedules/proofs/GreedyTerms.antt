-- Full schedules that end in a goal.
use Rattle.spec_schedules.specs.Order.{Schedule}
use Rattle.spec_schedules.specs.System.{System, run, FullFrom}

-- the schedule is full and ends in the goal
abbrev pub Reaches : (M : System) → (M.State → Type 0) → M.State → Schedule → Type 0
Reaches M Goal σ s = FullFrom M σ s × Goal (run M σ s)
