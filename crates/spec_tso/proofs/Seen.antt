-- What is seen of a state is seen of it without its queues: its graph, whether it fails, its memory. A state of sequential consistency with
-- nothing pending looks as it did; a program starts so.
use Prim.Native.Nat.{ℕ}
use mathlib.Core.Path.{◌≡◌, refl, sym, ap, ◌∙◌}
use mathlib.Core.List.{List, [], ◌∷◌, map}
use native.Mathlib.Omega.{arith}
use lib.ListN.{length, length-map, get_or-map}
use Rattle.spec_file.specs.Program.{Program}
use Rattle.spec_schedules.specs.Order.{Schedule}
use Rattle.spec_schedules.specs.System.{run}
use Rattle.spec_sc.specs.State as SC
use Rattle.spec_sc.specs.State.{Cell}
use Rattle.spec_sc.specs.Graph as SCGraph
use Rattle.spec_sc.specs.Exchange as SCExchange
use Rattle.spec_model.specs.Exchange.{Permutation}
use Rattle.spec_sc.specs.Exchange.{Renames}
use Rattle.spec_sc.proofs.Rows as Rows
use Rattle.spec_sc.proofs.Start as Start
use Rattle.spec_sc.proofs.Exchange as SCMoves
use Rattle.spec_sc.proofs.Failing as SCFailing
use Rattle.spec_tso.specs.State.{Thread, State, idle, drained, unqueued, without_queues, no_thread, thread_of, cell_of, kind_of, owner, step, TSO, start, fails, memory_of}
use Rattle.spec_tso.specs.Graph.{graph_of, end_of, graph}
use Rattle.spec_tso.specs.Exchange.{moved_thread, Moves}
use Rattle.spec_tso.proofs.Steps.{step_of_threads}

-- threads and locations without queues
pub seen_thread : (σ : State) (t : ℕ) → SC.thread_of (without_queues σ) t ≡ unqueued (thread_of σ t)
unfolding SC.thread_of without_queues thread_of no_thread idle unqueued
seen_thread σ t = get_or-map unqueued σ.threads t no_thread

pub seen_cell : (σ : State) (l : ℕ) → SC.cell_of (without_queues σ) l ≡ cell_of σ l
unfolding SC.cell_of without_queues cell_of
seen_cell σ l = refl

-- threads of a state with empty queues
pub drained_thread : (σ : SC.State) (t : ℕ) → thread_of (drained σ) t ≡ idle (SC.thread_of σ t)
unfolding thread_of drained SC.thread_of no_thread
drained_thread σ t = get_or-map idle σ.threads t SC.no_thread

pub drained_cell : (σ : SC.State) (l : ℕ) → cell_of (drained σ) l ≡ SC.cell_of σ l
unfolding cell_of drained SC.cell_of
drained_cell σ l = refl

pub drained_cells : (σ : SC.State) → (drained σ).cells ≡ σ.cells
unfolding drained
drained_cells σ = refl

pub drained_count : (σ : SC.State) → length (drained σ).threads ≡ length σ.threads
unfolding drained
drained_count σ = length-map σ.threads idle

idle_unqueued : (hs : List SC.Thread) → map unqueued (map idle hs) ≡ hs
unfolding idle unqueued
idle_unqueued [] = refl
idle_unqueued (h ∷ hs) = ap (λ (k : List SC.Thread). h ∷ k) (idle_unqueued hs)

pub seen_drained : (σ : SC.State) → without_queues (drained σ) ≡ σ
unfolding without_queues drained
seen_drained σ = ap (λ (k : List SC.Thread). let τ : SC.State = record { threads = k; cells = σ.cells } in τ) (idle_unqueued σ.threads)

-- A GRAPH, row by row and list by list
pub same_reads : (α β : State) → graph_of α ≡ graph_of β → (u : ℕ) → (thread_of α u).history.reads ≡ (thread_of β u).history.reads
unfolding graph_of unqueued
same_reads α β e u =
    ap (λ (h : SC.Thread). h.history.reads) (sym (seen_thread α u)) ∙ Rows.same_reads (without_queues α) (without_queues β) e u
    ∙ ap (λ (h : SC.Thread). h.history.reads) (seen_thread β u)

pub same_writes : (α β : State) → graph_of α ≡ graph_of β → (l : ℕ) → (cell_of α l).writes ≡ (cell_of β l).writes
unfolding graph_of
same_writes α β e l =
    ap (λ (c : Cell). c.writes) (sym (seen_cell α l)) ∙ Rows.same_writes (without_queues α) (without_queues β) e l ∙ ap (λ (c : Cell). c.writes) (seen_cell β l)

-- the graph of a state with nothing pending is the one it had
pub drained_graph : (σ : SC.State) → graph_of (drained σ) ≡ SCGraph.graph_of σ
unfolding graph_of
drained_graph σ = ap SCGraph.graph_of (seen_drained σ)

-- a row of reads for each thread
pub run_threads : (s : Schedule) (σ : State) → length (run TSO σ s).threads ≡ length σ.threads
unfolding run step
run_threads [] σ = refl
run_threads (b ∷ s) σ = run_threads s (step σ b) ∙ step_of_threads σ (kind_of b) (owner b)

pub start_threads : (p : Program) → length (start p).threads ≡ length p.threads
unfolding start
start_threads p = drained_count (SC.start p) ∙ Start.start_threads p

seen_count : (σ : State) → length (without_queues σ).threads ≡ length σ.threads
unfolding without_queues
seen_count σ = length-map σ.threads unqueued

pub graph_rows : (p : Program) (s : Schedule) → length (graph p s).reads ≡ length p.threads
unfolding graph_of
graph_rows p s = (Rows.graph_sizes (without_queues (end_of p s))).0 ∙ seen_count (end_of p s) ∙ run_threads s (start p) ∙ start_threads p

-- EXCHANGED STATES are seen as exchanged
moved_seen : (π : ℕ → ℕ) (h : Thread) → unqueued (moved_thread π h) ≡ SCExchange.moved_thread π (unqueued h)
unfolding unqueued moved_thread SCExchange.moved_thread
moved_seen π h = refl

seen_moves : (π : ℕ → ℕ) (σ τ : State) → Moves π σ τ → SCExchange.Moves π (without_queues σ) (without_queues τ)
unfolding without_queues
seen_moves π σ τ m = record {
  threads = λ t. seen_thread τ (π t) ∙ ap unqueued (m.threads t) ∙ moved_seen π (thread_of σ t) ∙ ap (SCExchange.moved_thread π) (sym (seen_thread σ t));
  cells = m.cells;
  within = λ t h. let a = seen_count σ in let b = seen_count τ in let c = m.within t (omega arith) in omega arith;
}

-- exchanged states have exchanged graphs, fail alike and have the same memory
pub moves_graph : (π : ℕ → ℕ) (σ τ : State) → Moves π σ τ → Renames π (graph_of σ) (graph_of τ)
unfolding graph_of
moves_graph π σ τ m = SCMoves.moves_graph π (without_queues σ) (without_queues τ) (seen_moves π σ τ m)

pub moves_fails : (π : ℕ → ℕ) → Permutation π → (σ τ : State) → Moves π σ τ → fails τ ≡ fails σ
unfolding fails
moves_fails π q σ τ m = SCFailing.moves_fails π q (without_queues σ) (without_queues τ) (seen_moves π σ τ m)

pub moves_memory : (π : ℕ → ℕ) (σ τ : State) → Moves π σ τ → memory_of τ ≡ memory_of σ
unfolding memory_of
moves_memory π σ τ m = SCMoves.moves_memory π (without_queues σ) (without_queues τ) (seen_moves π σ τ m)
