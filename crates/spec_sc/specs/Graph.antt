-- Schedules of a program and their graphs. A graph is canonical: the reads of each thread and the writes of each location, so that two
-- schedules have one graph exactly when these are equal.
use Rattle.std.specs.Prelude.{ℕ, ◌≡◌, true, List, map}
use Rattle.spec_file.specs.Program.{Program}
use Rattle.spec_schedules.specs.Order.{Schedule}
use Rattle.spec_schedules.specs.System.{run, FullFrom}
use Rattle.spec_sc.specs.State.{Event, Thread, Cell, State, SC, start, fails}

-- reads-from: for each thread its reads with their sources; coherence: for each location its writes; both latest first
pub record Graph : Type 0 where
  pub reads : List (List (ℕ × Event))
  pub writes : List (List Event)

unfoldable pub reads_of : Thread → List (ℕ × Event)
reads_of h = h.history.reads

unfoldable pub writes_of : Cell → List Event
writes_of c = c.writes

-- the graph that led to this state
unfoldable pub graph_of : State → Graph
graph_of σ = record { reads = map reads_of σ.threads; writes = map writes_of σ.cells }

-- the state behind a program's schedule
abbrev pub end_of : Program → Schedule → State
end_of p s = run SC (start p) s

-- each byte names a thread not yet ended, and in the end all have ended
abbrev pub Full : Program → Schedule → Type 0
Full p s = FullFrom SC (start p) s

-- an assertion has failed by the end of the schedule
abbrev pub Fails : Program → Schedule → Type 0
Fails p s = fails (end_of p s) ≡ true

-- the graph of a schedule
abbrev pub graph : Program → Schedule → Graph
graph p s = graph_of (end_of p s)
