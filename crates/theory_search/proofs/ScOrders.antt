-- The least order under sequential consistency.
use mathlib.Core.Path.{◌≡◌}
use Rattle.spec_schedules.specs.Order.{Schedule}
use Rattle.spec_schedules.specs.System.{run, FullFrom}
use Rattle.spec_schedules.proofs.Order.{AtMost}
use Rattle.theory_search.proofs.Orders
use Rattle.spec_sc.specs.State.{State, SC}
use Rattle.spec_sc.specs.Actions.{action, who, conflict}
use Rattle.spec_sc.proofs.ActionTerms.{actions}
use Rattle.theory_search.specs.Actions.{least_of}
use Rattle.spec_sc.proofs.Lawful.{lawful, names_ascend}
use Rattle.spec_sc.proofs.Orders.{action_who, steps_commute, Reorders}

pub least_order : (σ : State) (w : Schedule) → FullFrom SC σ w →
    FullFrom SC σ (least_of (actions σ w)) × (run SC σ (least_of (actions σ w)) ≡ run SC σ w) × ((r : Schedule) → Reorders (actions σ w) r → AtMost (least_of (actions σ w)) r)
least_order = Orders.order_least SC lawful names_ascend who conflict action action_who steps_commute
