-- What the steps of a run did, and which of them must keep their order. A step puts when it writes memory: a move, or a locked access that
-- writes. Whether a read took a pending store or memory is not noted, only its source: so a step does the same whenever its store moves.
use Rattle.std.specs.Prelude.{ℕ, Bool, true, false, not, ◌&&◌, ◌||◌, List, [], eqb}
use Rattle.spec_schedules.specs.Lists.{any}
use Rattle.spec_sc.specs.Local.{takes}
use Rattle.spec_sc.specs.State.{Event, initial_write, Cell}
use Rattle.spec_sc.specs.Actions.{given}
use Rattle.spec_sc.specs.Same.{same_event}
use Rattle.spec_tso.specs.Queue.{Found}
use Rattle.spec_tso.specs.State.{Thread, State, Kind, access, move, thread_of, cell_of, locked, finds, target, number_of, reaches, place}
use Rattle.spec_tso.specs.State.{kind_of, owner}

pub record Action : Type 0 where
  pub byte : ℕ
  -- thread and access number; a move has those of the store that it moves
  pub event : Event
  pub location : ℕ
  -- whether the step is a move of a pending store, not an access
  pub moves : Bool
  -- whether the step is a fetch and add or a compare and swap
  pub locks : Bool
  -- whether the step reads
  pub reads : Bool
  -- the write that the step reads from; the initial one where it reads nothing
  pub source : Event
  -- whether the step writes memory
  pub puts : Bool
  -- the writes of the location before the step, where it writes memory; else none
  pub before : List Event

unfoldable pub moving : Kind → Bool
moving access = false
moving move = true

-- whether such a step reads, whether it is locked
unfoldable pub reading : Kind → Thread → Bool
reading access h = takes h.local
reading move h = false

unfoldable pub locking : Kind → Thread → Bool
locking access h = locked h.local
locking move h = false

unfoldable pub source_if : Bool → Found → Event
source_if true f = f.source
source_if false f = initial_write

unfoldable pub before_if : Bool → Cell → List Event
before_if true c = c.writes
before_if false c = []

-- what a step of kind k of thread t does, by the byte b, at a location whose cell is c
unfoldable pub action_of : ℕ → Kind → ℕ → Thread → Cell → Action
action_of b k t h c = record {
  byte = b;
  event = (t, number_of k h);
  location = target k h;
  moves = moving k;
  locks = locking k h;
  reads = reading k h;
  source = source_if (reading k h) (finds t h c);
  puts = given (reaches k t h c);
  before = before_if (given (reaches k t h c)) c;
}

-- what the step b does
unfoldable pub action : State → ℕ → Action
action σ b = action_of b (kind_of b) (owner b) (thread_of σ (owner b)) (cell_of σ (place σ (kind_of b) (owner b)))

-- the byte of an action
unfoldable pub who : Action → ℕ
who a = a.byte

-- (a) e made the store that d moves
unfoldable pub makes : Action → Action → Bool
makes e d = not e.moves && (d.moves && same_event e.event d.event)

-- (b) e moved a store of the thread whose locked access d is
unfoldable pub empties : Action → Action → Bool
empties e d = e.moves && (d.locks && eqb e.event.0 d.event.0)

-- (c) e put where d puts, or where d reads what is not its own
unfoldable pub puts_first : Action → Action → Bool
puts_first e d = eqb e.location d.location && (e.puts && (d.puts || (d.reads && not (eqb d.source.0 d.event.0))))

-- (d) e read where d puts, and its source is in memory by then
unfoldable pub reads_first : Action → Action → Bool
reads_first e d =
    eqb e.location d.location
    && (e.reads && (d.puts && (same_event e.source initial_write || any (same_event e.source) d.before)))

-- e, which comes earlier and is of another byte, must stay before d
unfoldable pub dependent : Action → Action → Bool
dependent e d = (makes e d || empties e d) || (puts_first e d || reads_first e d)
