-- What a step leaves: the next state, and what the step did.
use Rattle.std.specs.Prelude.{ℕ, ◌≡◌, Bool, false, cond, List, get_or, set}
use Rattle.std.proofs.Math.Option.{none, some}
use Rattle.file_rows.specs.Rows.{thread_code}
use Rattle.spec_sc.specs.Local.{place_of, takes, puts}
use Rattle.spec_sc.specs.State.{Event, Cell, initial_write}
use Rattle.machine.specs.Held.{event_of, HoldsThread}
use Rattle.spec_tso.specs.Queue.{newest}
use Rattle.spec_tso.specs.State.{Thread, State, Kind, access, move, thread_of, cell_of, unqueued, locked, finds, thread_behind, place, step}
use Rattle.spec_tso.specs.State.{kind_of, owner}
use Rattle.spec_tso.specs.Actions.{action}
use Rattle.tso_machine.specs.declared.state.QueuedMachine.{QueuedMachine}
use Rattle.tso_machine.specs.declared.meeting.Met.{Met}
use Rattle.tso_machine.specs.declared.stepping.Change.{Change}
use Rattle.tso_machine.specs.declared.stepping.Stepped.{Stepped}
use Rattle.tso_machine.specs.Held.{Holds}
use Rattle.tso_machine.specs.Looked.{is_there}

-- the write that an access finds; a move finds none
unfoldable pub source_of : Kind → ℕ → Thread → Cell → Event
source_of access t h c = (finds t h c).source
source_of move t h c = initial_write

-- whether that is a pending store of its own
unfoldable pub own_of : Kind → Thread → Bool
own_of access h = is_there (newest h.queue (place_of h.local))
own_of move h = false

-- the location of the step b before it
abbrev pub cell_at : State → ℕ → Cell
cell_at σ b = cell_of σ (place σ (kind_of b) (owner b))

-- thread t's next access, as the code has it
pub record HoldsMet (code lengths : List ℕ) (σ : State) (t : ℕ) (a : Met) : Type 0 where
  pub thread : HoldsThread (thread_code code t (get_or lengths t 0)) a.thread
      (unqueued (thread_behind access t (thread_of σ t) (cell_of σ (place σ access t))))
  pub registers : (thread_behind access t (thread_of σ t) (cell_of σ (place σ access t))).local.registers ≡ a.thread.registers
  pub puts : puts (thread_of σ t).local (finds t (thread_of σ t) (cell_of σ (place σ access t))).value
      ≡ cond a.writes (some a.value) none
  pub location : a.location ≡ place σ access t
  pub reads : a.reads ≡ takes (thread_of σ t).local
  pub locks : a.locks ≡ locked (thread_of σ t).local
  pub source : event_of a.source ≡ (finds t (thread_of σ t) (cell_of σ (place σ access t))).source
  pub own : a.own ≡ own_of access (thread_of σ t)

-- what the step b leaves: the next state, and what it did
pub record HoldsStep (code lengths : List ℕ) (σ : State) (b : ℕ) (r : Stepped) : Type 0 where
  pub holds : Holds code lengths r.machine (step σ b)
  pub number : r.act.number ≡ (action σ b).event.1
  pub location : r.act.location ≡ (action σ b).location
  pub reads : r.act.reads ≡ (action σ b).reads
  pub locks : r.act.locks ≡ (action σ b).locks
  pub puts : r.act.puts ≡ (action σ b).puts
  pub source : event_of r.act.source ≡ source_of (kind_of b) (owner b) (thread_of σ (owner b)) (cell_at σ b)
  pub own : r.act.own ≡ own_of (kind_of b) (thread_of σ (owner b))

-- the machine with a step's change stored in it, thread t being the u-th, and what the step did
abbrev pub behind : QueuedMachine → ℕ → Change → Stepped
behind m u c = record {
  machine = record {
    threads = set m.threads u c.thread;
    memory = set m.memory c.place c.value;
    last = set m.last c.place c.last;
    heads = set m.heads u c.head;
    tails = set m.tails u c.tail;
    slots = set m.slots c.at c.slot;
  };
  act = c.act;
}
