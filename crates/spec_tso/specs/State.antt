-- Threads and memory under total store order, by the x86-TSO machine of Owens, Sarkar and Sewell. Each thread has a queue of pending
-- stores. The byte t does thread t's next access; the byte 16 + t moves its oldest pending store to memory, also after thread t has ended
-- or failed. Local states, histories and locations are those of sequential consistency. A step reads one thread and one location and puts
-- both back; nothing else changes.
use Rattle.std.specs.Prelude.{ℕ, ◌+◌, ◌-◌, Bool, true, false, ◌&&◌, List, [], ◌∷◌, ◌++◌, map, ltb, length, get_or, set}
use Rattle.std.proofs.Math.Option.{Option}
use Rattle.spec_file.specs.Program.{Program}
use Rattle.spec_file.specs.WellFormed.{accesses}
use Rattle.spec_file.specs.declared.instruction.Access.{Access}
use Rattle.spec_file.specs.declared.instruction.Access.TheVariants.{Store, Load, FetchAdd, CompareSwap}
use Rattle.spec_file.specs.declared.instruction.Instruction.{Instruction}
use Rattle.spec_file.specs.declared.instruction.Instruction.TheVariants.{Memory, Alone}
use Rattle.spec_schedules.specs.Lists.{range}
use Rattle.spec_schedules.specs.System.{System}
use Rattle.spec_sc.specs.Local.{Local, pending, place_of, takes, puts, next}
use Rattle.spec_sc.specs.State as SC
use Rattle.spec_sc.specs.State.{History, Cell, fresh_cell, noted, written}
use Rattle.spec_tso.specs.Queue.{Entry, newest, Found, found_in, queued, at_once, free}
use Rattle.spec_tso.specs.Queue.{oldest_number, oldest_place, oldest_value, newer, movable}

-- a thread: its local state, its history, and its pending stores, oldest first
pub record Thread : Type 0 where
  pub local : Local
  pub history : History
  pub queue : List Entry

pub record State : Type 0 where
  pub threads : List Thread
  pub cells : List Cell

-- a thread, and a whole state, of sequential consistency, with nothing pending
unfoldable pub idle : SC.Thread → Thread
idle h = record { local = h.local; history = h.history; queue = [] }

unfoldable pub drained : SC.State → State
drained σ = record { threads = map idle σ.threads; cells = σ.cells }

-- a program's state before the first step
unfoldable pub start : Program → State
start p = drained (SC.start p)

-- a thread without its queue, and a state without its queues: what is seen of it
unfoldable pub unqueued : Thread → SC.Thread
unqueued h = record { local = h.local; history = h.history }

unfoldable pub without_queues : State → SC.State
without_queues σ = record { threads = map unqueued σ.threads; cells = σ.cells }

-- what stands for a thread that does not exist: it has ended and nothing is pending
unfoldable pub no_thread : Thread
no_thread = idle SC.no_thread

unfoldable pub thread_of : State → ℕ → Thread
thread_of σ t = get_or σ.threads t no_thread

unfoldable pub cell_of : State → ℕ → Cell
cell_of σ l = get_or σ.cells l (fresh_cell 0)

-- a fetch and add or a compare and swap is locked: it needs an empty queue and acts on memory
unfoldable pub access_locks : Access → Bool
access_locks (Store l p) = false
access_locks (Load r l) = false
access_locks (FetchAdd r l p) = true
access_locks (CompareSwap r l e v) = true

unfoldable pub first_locks : List Instruction → Bool
first_locks [] = false
first_locks (Memory a ∷ is) = access_locks a
first_locks (Alone o ∷ is) = false

-- whether a thread's next access is locked
unfoldable pub locked : Local → Bool
locked h = first_locks h.rest

-- what thread t finds at the location of its next access, whose cell is c: its newest pending store there, else memory. A locked access
-- steps with an empty queue only, so it finds memory.
unfoldable pub finds : ℕ → Thread → Cell → Found
finds t h c = found_in t (newest h.queue (place_of h.local)) c

-- the two kinds of steps of a thread
pub data Kind : Type 0 where
  -- the thread's next access
  access : Kind
  -- the flush of the thread's oldest pending store to memory
  move : Kind

-- the location of a thread's step of this kind
unfoldable pub target : Kind → Thread → ℕ
target access h = place_of h.local
target move h = oldest_place h.queue

-- the access number of a step's event; a move has that of its store
unfoldable pub number_of : Kind → Thread → ℕ
number_of access h = h.history.done
number_of move h = oldest_number h.queue

-- what a step writes to memory, if anything
unfoldable pub reaches : Kind → ℕ → Thread → Cell → Option ℕ
reaches access t h c = at_once (locked h.local) (puts h.local (finds t h c).value)
reaches move t h c = oldest_value h.queue

-- thread t behind its step, where the cell of the step's location was c
unfoldable pub thread_behind : Kind → ℕ → Thread → Cell → Thread
thread_behind access t h c = record {
  local = next h.local (finds t h c).value;
  history = noted (takes h.local) (finds t h c).source h.history;
  queue = h.queue ++ queued (locked h.local) h.history.done (place_of h.local) (puts h.local (finds t h c).value);
}
thread_behind move t h c = record { local = h.local; history = h.history; queue = newer h.queue }

-- the cell of the step's location behind the step
unfoldable pub cell_behind : Kind → ℕ → Thread → Cell → Cell
cell_behind k t h c = written (t, number_of k h) (reaches k t h c) c

unfoldable pub place : State → Kind → ℕ → ℕ
place σ k t = target k (thread_of σ t)

-- the state behind a step of this kind by thread t
unfoldable pub step_of : State → Kind → ℕ → State
step_of σ k t =
    let h = thread_of σ t in
    let c = cell_of σ (place σ k t) in
    record { threads = set σ.threads t (thread_behind k t h c); cells = set σ.cells (place σ k t) (cell_behind k t h c) }

-- a thread may do its next access if it has not ended and, where that is locked, its queue is empty; it may move while something is
-- pending, also after it has ended or failed. There are n locations.
unfoldable pub able : Kind → Thread → ℕ → Bool
able access h n = pending h.local && free (locked h.local) h.queue
able move h n = movable h.queue n

-- the kind and the thread of a byte, and the byte for them
unfoldable pub kind_of : ℕ → Kind
kind_of b = elim (ltb b 16) [ true ↦ access | false ↦ move ]

unfoldable pub owner_by : Kind → ℕ → ℕ
owner_by access b = b
owner_by move b = b - 16

unfoldable pub owner : ℕ → ℕ
owner b = owner_by (kind_of b) b

unfoldable pub byte_for : Kind → ℕ → ℕ
byte_for access t = t
byte_for move t = t + 16

unfoldable pub step : State → ℕ → State
step σ b = step_of σ (kind_of b) (owner b)

-- a byte may step where its thread, one of at most six, can do a step of the byte's kind
unfoldable pub enabled : State → ℕ → Bool
enabled σ b = ltb (owner b) 6 && able (kind_of b) (thread_of σ (owner b)) (length σ.cells)

-- the steps that a thread has left at most: two for each access left in its code, and one for each pending store
unfoldable pub weight : Thread → ℕ
weight h = accesses h.local.rest + accesses h.local.rest + length h.queue

unfoldable pub size_of : List Thread → ℕ
size_of [] = 0
size_of (h ∷ hs) = weight h + size_of hs

unfoldable pub size : State → ℕ
size σ = size_of σ.threads

-- total store order as a step system
abbrev pub TSO : System
TSO = record { State = State; enabled = enabled; step = step; names = range 0 6 ++ range 16 6; size = size }

-- whether some assertion failed, and the eight values of memory
unfoldable pub fails : State → Bool
fails σ = SC.fails (without_queues σ)

unfoldable pub memory_of : State → List ℕ
memory_of σ = SC.memory_of (without_queues σ)
