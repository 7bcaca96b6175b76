-- Exchanging threads. A permutation of the six thread numbers makes each event (t, i) into (π t, i); the initial write stays. "Turned into"
-- is a relation of two states, or of two graphs, so that it needs no inverse.
use Rattle.std.specs.Prelude.{ℕ, ◌<◌, ◌≡◌, List, [], map, length, get_or}
use Rattle.spec_sc.specs.State.{Event, Thread, Cell, State, thread_of}
use Rattle.spec_sc.specs.Graph.{Graph}

-- the permutations that are permitted, the same in every memory model
unfoldable pub moved_event : (ℕ → ℕ) → Event → Event
moved_event π e = (π e.0, e.1)

unfoldable pub moved_read : (ℕ → ℕ) → ℕ × Event → ℕ × Event
moved_read π r = (r.0, moved_event π r.1)

unfoldable pub moved_reads : (ℕ → ℕ) → List (ℕ × Event) → List (ℕ × Event)
moved_reads π rs = map (moved_read π) rs

unfoldable pub moved_writes : (ℕ → ℕ) → List Event → List Event
moved_writes π ws = map (moved_event π) ws

-- the thread with its sources renamed
unfoldable pub moved_thread : (ℕ → ℕ) → Thread → Thread
moved_thread π h = record { local = h.local; history = record { done = h.history.done; reads = moved_reads π h.history.reads } }

unfoldable pub moved_cell : (ℕ → ℕ) → Cell → Cell
moved_cell π c = record { value = c.value; writes = moved_writes π c.writes }

-- the second state is the first with its threads exchanged
pub record Moves (π : ℕ → ℕ) (σ τ : State) : Type 0 where
  pub threads : (t : ℕ) → thread_of τ (π t) ≡ moved_thread π (thread_of σ t)
  pub cells : τ.cells ≡ map (moved_cell π) σ.cells
  pub within : (t : ℕ) → t < length σ.threads → π t < length τ.threads

-- the second graph is the first with its threads exchanged
pub record Renames (π : ℕ → ℕ) (g h : Graph) : Type 0 where
  pub reads : (t : ℕ) → t < length g.reads → get_or h.reads (π t) [] ≡ moved_reads π (get_or g.reads t [])
  pub writes : h.writes ≡ map (moved_writes π) g.writes
