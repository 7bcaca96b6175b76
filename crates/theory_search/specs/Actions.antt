-- The least order of what the steps of a run did.
use Rattle.std.specs.Prelude.{List}
use Rattle.spec_schedules.specs.Order.{Schedule}
use Rattle.theory_search.specs.Orders.{least_order}
use Rattle.spec_sc.specs.State.{SC}
use Rattle.spec_sc.specs.Actions.{Action, who, conflict}

-- the least order of these steps in which no two of one thread, and no two that conflict, change places
abbrev pub least_of : List Action → Schedule
least_of acts = least_order who conflict SC.names acts
