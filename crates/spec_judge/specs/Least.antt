-- The least schedule that makes a graph: least for this graph itself, not up to exchange.
use Rattle.std.specs.Prelude.{◌≡◌, false}
use Rattle.spec_file.specs.Program.{Program}
use Rattle.spec_schedules.specs.Order.{Schedule, less}
use Rattle.spec_sc.specs.Graph.{Graph, graph, Full}

-- the schedule is full and has this graph
abbrev pub MadeBy : Program → Graph → Schedule → Type 0
MadeBy p g s = Full p s × (graph p s ≡ g)

-- the schedule is full and has this graph, and no smaller one is and does
abbrev pub LeastFor : Program → Graph → Schedule → Type 0
LeastFor p g s = MadeBy p g s × ((r : Schedule) → MadeBy p g r → less r s ≡ false)
