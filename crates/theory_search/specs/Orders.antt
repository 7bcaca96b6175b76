-- The least order of a run's own steps.
use Rattle.std.specs.Prelude.{ℕ, Bool, List, length}
use Rattle.spec_schedules.specs.Order.{Schedule}
use Rattle.spec_schedules.specs.Greedy.{greedy}
use Rattle.spec_schedules.specs.Orders.{ready, Remaining}

module _ {D : Type 0} (who : D → ℕ) (dependent : D → D → Bool) where
  -- the least order of these actions, by bytes among these names
  unfoldable pub least_order : List ℕ → List D → Schedule
  least_order names ds = greedy ((Remaining who dependent) names) (ready who dependent) (length ds) ds
