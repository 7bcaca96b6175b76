-- One graph, one least schedule.
use mathlib.Core.Path.{◌≡◌}
use Rattle.spec_schedules.specs.Order.{Schedule}
use Rattle.spec_schedules.specs.System.{run, FullFrom}
use Rattle.spec_schedules.proofs.Order.{AtMost}
use Rattle.spec_sc.specs.State.{State, SC}
use Rattle.spec_sc.specs.Graph.{graph_of}
use Rattle.spec_sc.proofs.ActionTerms.{actions}
use Rattle.theory_search.specs.Actions.{least_of}
use Rattle.theory_search.proofs.ScOrders.{least_order}
use Rattle.spec_sc.proofs.Regular.{Regular}
use Rattle.spec_sc.proofs.SameGraph.{same_graph_reorders}

-- THE LEAST SCHEDULE with the graph of w is the least order of w's steps
pub same_graph_least : (σ : State) → Regular σ → (w : Schedule) → FullFrom SC σ w →
    FullFrom SC σ (least_of (actions σ w)) × (run SC σ (least_of (actions σ w)) ≡ run SC σ w) × ((r : Schedule) → FullFrom SC σ r → graph_of (run SC σ r) ≡ graph_of (run SC σ w) → AtMost (least_of (actions σ w)) r)
same_graph_least σ g w f =
    let o = least_order σ w f in
    (o.0, o.1, λ r fr e. o.2 r (same_graph_reorders r w σ g fr f e))
