-- Threads and memory under sequential consistency. Beside its local state each thread has a history, and beside its value each location its
-- writes: the graph so far. A step reads one thread and one location and puts both back; nothing else changes.
use Rattle.std.specs.Prelude.{ℕ, suc, ◌+◌, Bool, true, false, List, [], ◌∷◌, map, ltb, get_or, set}
use Rattle.std.proofs.Math.Option.{Option, none, some}
use Rattle.spec_file.specs.Program.{Program, initial}
use Rattle.spec_file.specs.WellFormed.{accesses}
use Rattle.spec_file.specs.declared.instruction.Instruction.{Instruction}
use Rattle.spec_schedules.specs.Lists.{any, range}
use Rattle.spec_schedules.specs.System.{System}
use Rattle.spec_sc.specs.Local.{Local, pending, place_of, takes, puts, next, begin}

-- thread t's access number i, from 0
abbrev pub Event : Type 0
Event = ℕ × ℕ

-- the write that each location starts with
unfoldable pub initial_write : Event
initial_write = (255, 255)

-- how many accesses a thread did, and its reads, latest first: access number and the write that it read from
pub record History : Type 0 where
  pub done : ℕ
  pub reads : List (ℕ × Event)

pub record Thread : Type 0 where
  pub local : Local
  pub history : History

-- a location: its value, and its writes, latest first
pub record Cell : Type 0 where
  pub value : ℕ
  pub writes : List Event

pub record State : Type 0 where
  pub threads : List Thread
  pub cells : List Cell

-- what stands for a thread that does not exist: it has ended
unfoldable pub no_thread : Thread
no_thread = record { local = record { registers = []; rest = []; failed = false }; history = record { done = 0; reads = [] } }

-- a location that holds v and was not written yet
unfoldable pub fresh_cell : ℕ → Cell
fresh_cell v = record { value = v; writes = [] }

unfoldable pub thread_of : State → ℕ → Thread
thread_of σ t = get_or σ.threads t no_thread

unfoldable pub cell_of : State → ℕ → Cell
cell_of σ l = get_or σ.cells l (fresh_cell 0)

-- the location of thread t's next access
unfoldable pub place : State → ℕ → ℕ
place σ t = place_of (thread_of σ t).local

-- the write that a read takes its value from: the last one, or the initial one if there is none
unfoldable pub latest : List Event → Event
latest [] = initial_write
latest (e ∷ es) = e

-- a history with one access more, which reads from e if it reads
unfoldable pub noted : Bool → Event → History → History
noted true e h = record { done = suc h.done; reads = (h.done, e) ∷ h.reads }
noted false e h = record { done = suc h.done; reads = h.reads }

-- the thread behind its next access, on this cell
unfoldable pub advanced : Thread → Cell → Thread
advanced h c = record { local = next h.local c.value; history = noted (takes h.local) (latest c.writes) h.history }

-- the cell behind a write by the event e, or unchanged if nothing is written
unfoldable pub written : Event → Option ℕ → Cell → Cell
written e none c = c
written e (some v) c = record { value = v; writes = e ∷ c.writes }

-- the cell behind thread t's next access to it
unfoldable pub met : ℕ → Thread → Cell → Cell
met t h c = written (t, h.history.done) (puts h.local c.value) c

-- a step of thread t: its next access, then its instructions up to the next access
unfoldable pub step : State → ℕ → State
step σ t =
    let h = thread_of σ t in
    let c = cell_of σ (place σ t) in
    record { threads = set σ.threads t (advanced h c); cells = set σ.cells (place σ t) (met t h c) }

-- a thread may step while it has not ended; there are at most six
unfoldable pub enabled : State → ℕ → Bool
enabled σ t = elim (ltb t 6) [ true ↦ pending (thread_of σ t).local | false ↦ false ]

-- the accesses left in the code of these threads
unfoldable pub accesses_left : List Thread → ℕ
accesses_left [] = 0
accesses_left (h ∷ hs) = accesses h.local.rest + accesses_left hs

unfoldable pub size : State → ℕ
size σ = accesses_left σ.threads

-- sequential consistency as a step system
abbrev pub SC : System
SC = record { State = State; enabled = enabled; step = step; names = range 0 6; size = size }

-- a thread of this code before its first step
unfoldable pub opened : List Instruction → Thread
opened c = record { local = begin c; history = record { done = 0; reads = [] } }

-- a program's state before the first step
unfoldable pub start : Program → State
start p = record { threads = map opened p.threads; cells = map fresh_cell (initial p) }

unfoldable pub failed_of : Thread → Bool
failed_of h = h.local.failed

-- whether some assertion failed
unfoldable pub fails : State → Bool
fails σ = any failed_of σ.threads

unfoldable pub value_of : Cell → ℕ
value_of c = c.value

-- the eight values of memory
unfoldable pub memory_of : State → List ℕ
memory_of σ = map value_of σ.cells
