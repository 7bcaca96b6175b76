-- The bound of a search as the code knows it: the schedule's bytes, and whether the steps taken so far are its own first ones.
use Rattle.std.specs.Prelude.{ℕ, Bool, true, false, List, drop}
use Rattle.std.proofs.Math.Option.{Option, none, some}
use Rattle.spec_schedules.specs.Order.{Schedule}

-- what is left of the bound behind so many steps; none where the steps are not its own
unfoldable pub bound_at : Bool → List ℕ → ℕ → Option Schedule
bound_at true bound k = some (drop k bound)
bound_at false bound k = none
