-- Full schedules of a program under total store order, and their graphs: graphs as under sequential consistency. Coherence is the order of
-- reaching memory, since a location notes a write when it gets there; a load that took a pending store has noted that store as its source.
use Rattle.spec_file.specs.Program.{Program}
use Rattle.spec_schedules.specs.Order.{Schedule}
use Rattle.spec_schedules.specs.System.{run, FullFrom}
use Rattle.spec_sc.specs.Graph as SC
use Rattle.spec_sc.specs.Graph.{Graph}
use Rattle.spec_tso.specs.State.{State, without_queues, TSO, start}

-- the graph that led to this state
unfoldable pub graph_of : State → Graph
graph_of σ = SC.graph_of (without_queues σ)

-- the state behind a program's schedule
abbrev pub end_of : Program → Schedule → State
end_of p s = run TSO (start p) s

-- each byte may step in its turn, and behind the last none may: all threads have ended and all queues are empty
abbrev pub Full : Program → Schedule → Type 0
Full p s = FullFrom TSO (start p) s

-- the graph of a schedule
abbrev pub graph : Program → Schedule → Graph
graph p s = graph_of (end_of p s)
