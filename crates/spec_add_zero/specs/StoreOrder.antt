-- ADDING ZERO UNDER TOTAL STORE ORDER: that machine for any account of what an access writes, and what is shown of both fetch and adds. A
-- locked access acts on memory at once; nothing else of the machine asks what a fetch and add writes.
use Rattle.std.specs.Prelude.{ℕ, ◌≡◌, ◌↔◌, true, List, ◌++◌, set}
use Rattle.std.proofs.Math.Option.{Option}
use Rattle.spec_file.specs.Program.{Program}
use Rattle.spec_schedules.specs.Lists.{range}
use Rattle.spec_schedules.specs.Order.{Schedule}
use Rattle.spec_schedules.specs.System.{System, run, FullFrom}
use Rattle.spec_sc.specs.Local.{place_of, takes, next}
use Rattle.spec_sc.specs.State.{Cell, noted, written}
use Rattle.spec_tso.specs.Queue.{queued, at_once, oldest_value, newer}
use Rattle.spec_tso.specs.State.{Thread, State, thread_of, cell_of, locked, finds, Kind, access, move, number_of, place, kind_of, owner, enabled, size, TSO, start, fails, memory_of, without_queues}
use Rattle.spec_add_zero.specs.Values.{Values, Outcome}
use Rattle.spec_add_zero.specs.Writing.{Writing, put_first, values_of}

-- what a step writes to memory, if anything
unfoldable pub reaches_by : Writing → Kind → ℕ → Thread → Cell → Option ℕ
reaches_by w access t h c = at_once (locked h.local) (w h.local (finds t h c).value)
reaches_by w move t h c = oldest_value h.queue

-- thread t behind its step
unfoldable pub thread_by : Writing → Kind → ℕ → Thread → Cell → Thread
thread_by w access t h c = record {
  local = next h.local (finds t h c).value;
  history = noted (takes h.local) (finds t h c).source h.history;
  queue = h.queue ++ queued (locked h.local) h.history.done (place_of h.local) (w h.local (finds t h c).value);
}
thread_by w move t h c = record { local = h.local; history = h.history; queue = newer h.queue }

-- the state behind a step of this kind by thread t: as the machine's own, but for what is written
unfoldable pub kind_by : Writing → State → Kind → ℕ → State
kind_by w σ k t =
    let h = thread_of σ t in
    let c = cell_of σ (place σ k t) in
    record { threads = set σ.threads t (thread_by w k t h c); cells = set σ.cells (place σ k t) (written (t, number_of k h) (reaches_by w k t h c) c) }

abbrev pub TsoBy : Writing → System
TsoBy w = record { State = State; enabled = enabled; step = λ σ b. kind_by w σ (kind_of b) (owner b); names = range 0 6 ++ range 16 6; size = size }

-- by document 01's first fetch and add
abbrev pub First : System
First = TsoBy put_first

-- memory and whether an assertion failed
abbrev pub outcome_in : State → Outcome
outcome_in σ = (memory_of σ, fails σ)

-- some full schedule of p under total store order has this outcome, by the amended fetch and add and by the first
abbrev pub HasInOrder : Program → Outcome → Type 0
HasInOrder p o = (s : Schedule) × FullFrom TSO (start p) s × (outcome_in (run TSO (start p) s) ≡ o)

abbrev pub HadInOrder : Program → Outcome → Type 0
HadInOrder p o = (s : Schedule) × FullFrom First (start p) s × (outcome_in (run First (start p) s) ≡ o)

pub record SameInOrder (p : Program) : Type 0 where
  -- the full schedules are the same by both
  pub full : (s : Schedule) → FullFrom TSO (start p) s ↔ FullFrom First (start p) s
  -- each ends with the same registers, failures and memory
  pub ends : (s : Schedule) → FullFrom TSO (start p) s → values_of (without_queues (run TSO (start p) s)) ≡ values_of (without_queues (run First (start p) s))
  -- no outcome is lost
  pub kept : (o : Outcome) → HadInOrder p o → HasInOrder p o
  -- no outcome is new
  pub none_new : (o : Outcome) → HasInOrder p o → HadInOrder p o
