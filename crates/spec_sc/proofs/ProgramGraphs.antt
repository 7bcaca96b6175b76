-- The graph of a program's schedule, by the state at its end: equal ends have one graph, exchanged ends have exchanged graphs, and the least
-- order of a full schedule's steps is the least schedule with its graph.
use Prim.Native.Nat.{ℕ}
use mathlib.Core.Path.{◌≡◌, ap, ◌∙◌}
use lib.ListN.{length}
use Rattle.spec_file.specs.Program.{Program}
use Rattle.spec_schedules.specs.Order.{Schedule}
use Rattle.spec_sc.specs.State.{start}
use Rattle.spec_sc.specs.Graph.{graph_of, graph, end_of}
use Rattle.spec_sc.specs.Exchange.{Moves, Renames}
use Rattle.spec_sc.proofs.Steps.{run_threads}
use Rattle.spec_sc.proofs.Start.{start_threads}
use Rattle.spec_sc.proofs.Rows.{graph_sizes}
use Rattle.spec_sc.proofs.Exchange.{moves_graph}

-- a row of reads for each thread
pub graph_rows : (p : Program) (s : Schedule) → length (graph p s).reads ≡ length p.threads
graph_rows p s = (graph_sizes (end_of p s)).0 ∙ run_threads s (start p) ∙ start_threads p

pub graph_same_end : (p : Program) (a b : Schedule) → end_of p a ≡ end_of p b → graph p a ≡ graph p b
graph_same_end p a b e = ap graph_of e

pub graph_moved_end : (p : Program) (π : ℕ → ℕ) (a b : Schedule) → Moves π (end_of p a) (end_of p b) → Renames π (graph p a) (graph p b)
graph_moved_end p π a b m = moves_graph π (end_of p a) (end_of p b) m
