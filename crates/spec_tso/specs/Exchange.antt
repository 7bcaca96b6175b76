-- Exchanging threads under total store order: a thread goes with its queue and its history, and both of its bytes go with it. An entry of a
-- queue names no thread, so queues stay as they are.
use Rattle.std.specs.Prelude.{ℕ, ◌<◌, ◌≡◌, map, length}
use Rattle.spec_sc.specs.Exchange.{moved_event, moved_reads, moved_writes, moved_cell}
use Rattle.spec_tso.specs.State.{Thread, State, thread_of, kind_of, owner, byte_for}
use Rattle.spec_tso.specs.Actions.{Action}

unfoldable pub moved_byte : (ℕ → ℕ) → ℕ → ℕ
moved_byte π b = byte_for (kind_of b) (π (owner b))

-- the thread with its sources renamed
unfoldable pub moved_thread : (ℕ → ℕ) → Thread → Thread
moved_thread π h = record {
  local = h.local;
  history = record { done = h.history.done; reads = moved_reads π h.history.reads };
  queue = h.queue;
}

-- the second state is the first with its threads exchanged
pub record Moves (π : ℕ → ℕ) (σ τ : State) : Type 0 where
  pub threads : (t : ℕ) → thread_of τ (π t) ≡ moved_thread π (thread_of σ t)
  pub cells : τ.cells ≡ map (moved_cell π) σ.cells
  pub within : (t : ℕ) → t < length σ.threads → π t < length τ.threads

-- an action of the exchanged run
unfoldable pub moved_action : (ℕ → ℕ) → Action → Action
moved_action π a = record {
  byte = moved_byte π a.byte;
  event = moved_event π a.event;
  location = a.location;
  moves = a.moves;
  locks = a.locks;
  reads = a.reads;
  source = moved_event π a.source;
  puts = a.puts;
  before = moved_writes π a.before;
}
