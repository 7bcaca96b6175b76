-- A state's graph, row by row and list by list.
use Prim.Native.Nat.{ℕ}
use mathlib.Core.Path.{◌≡◌, ap, ap₂, sym, ◌∙◌}
use mathlib.Core.List.{[]}
use lib.ListN.{length, get_or, length-map, get_or-map}
use lib.Seq.{ext_get_or}
use Rattle.spec_sc.specs.State.{State, no_thread, fresh_cell, thread_of, cell_of}
use Rattle.spec_sc.specs.Graph.{Graph, reads_of, writes_of, graph_of}
use Rattle.spec_sc.proofs.GraphTerms.{graph_with}

pub row_at : (σ : State) (t : ℕ) → get_or (graph_of σ).reads t [] ≡ (thread_of σ t).history.reads
unfolding graph_of reads_of thread_of no_thread
row_at σ t = get_or-map reads_of σ.threads t no_thread

pub order_at : (σ : State) (l : ℕ) → get_or (graph_of σ).writes l [] ≡ (cell_of σ l).writes
unfolding graph_of writes_of cell_of fresh_cell
order_at σ l = get_or-map writes_of σ.cells l (fresh_cell 0)

-- as many rows as threads, as many lists as cells
pub graph_sizes : (σ : State) → (length (graph_of σ).reads ≡ length σ.threads) × (length (graph_of σ).writes ≡ length σ.cells)
unfolding graph_of
graph_sizes σ = (length-map σ.threads reads_of, length-map σ.cells writes_of)

-- a graph is a state's if it is so row by row and list by list
pub same_graph : (σ : State) (g : Graph) → length σ.threads ≡ length g.reads → length σ.cells ≡ length g.writes →
    ((t : ℕ) → (thread_of σ t).history.reads ≡ get_or g.reads t []) → ((l : ℕ) → (cell_of σ l).writes ≡ get_or g.writes l []) → graph_of σ ≡ g
same_graph σ g a b r w = ap₂ graph_with
    (ext_get_or [] (graph_of σ).reads g.reads ((graph_sizes σ).0 ∙ a) (λ t h. row_at σ t ∙ r t))
    (ext_get_or [] (graph_of σ).writes g.writes ((graph_sizes σ).1 ∙ b) (λ l h. order_at σ l ∙ w l))

-- equal graphs have equal rows and lists
pub same_reads : (α β : State) → graph_of α ≡ graph_of β → (u : ℕ) → (thread_of α u).history.reads ≡ (thread_of β u).history.reads
same_reads α β e u = sym (row_at α u) ∙ ap (λ (g : Graph). get_or g.reads u []) e ∙ row_at β u

pub same_writes : (α β : State) → graph_of α ≡ graph_of β → (l : ℕ) → (cell_of α l).writes ≡ (cell_of β l).writes
same_writes α β e l = sym (order_at α l) ∙ ap (λ (g : Graph). get_or g.writes l []) e ∙ order_at β l
