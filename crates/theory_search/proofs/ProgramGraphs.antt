-- The least schedule with a graph, of a program.
use mathlib.Core.Path.{◌≡◌}
use Rattle.spec_file.specs.Program.{Program}
use Rattle.spec_file.specs.WellFormed.{WellFormed}
use Rattle.spec_schedules.specs.Order.{Schedule}
use Rattle.spec_schedules.proofs.Order.{AtMost}
use Rattle.spec_sc.specs.State.{start}
use Rattle.spec_sc.specs.Graph.{graph, end_of, Full}
use Rattle.spec_sc.proofs.ActionTerms.{actions}
use Rattle.theory_search.specs.Actions.{least_of}
use Rattle.spec_sc.proofs.Regular.{regular_start}
use Rattle.theory_search.proofs.SameGraph.{same_graph_least}

pub graph_least : (p : Program) → WellFormed p → (s : Schedule) → Full p s →
    Full p (least_of (actions (start p) s)) × (end_of p (least_of (actions (start p) s)) ≡ end_of p s) × ((r : Schedule) → Full p r → graph p r ≡ graph p s → AtMost (least_of (actions (start p) s)) r)
graph_least p w s f = same_graph_least (start p) (regular_start p w) s f
