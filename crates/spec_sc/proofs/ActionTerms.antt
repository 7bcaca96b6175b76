-- The actions of a run.
use mathlib.Core.List.{List}
use Rattle.spec_schedules.specs.Order.{Schedule}
use Rattle.spec_schedules.specs.Orders.{trace}
use Rattle.spec_sc.specs.State.{State, SC}
use Rattle.spec_sc.specs.Actions.{Action, action}

-- what the steps of a schedule do, in order
abbrev pub actions : State → Schedule → List Action
actions σ s = trace SC action σ s
