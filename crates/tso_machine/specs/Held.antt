-- How the machine's arrays hold a state of total store order: threads, memory and last writes as those of sequential consistency hold the
-- state without its queues, and the queues in slots.
use Rattle.std.specs.Prelude.{ℕ, ◌+◌, ◌-◌, ◌<◌, ◌≤◌, ◌≡◌, true, List, length, get_or}
use Rattle.spec_file.specs.WellFormed.{accesses}
use Rattle.machine_access.specs.declared.thread.ThreadState.{ThreadState}
use Rattle.machine.specs.declared.state.LastWrite.{LastWrite}
use Rattle.machine.specs.declared.state.Machine.{Machine}
use Rattle.machine.specs.Held as SC
use Rattle.spec_tso.specs.Queue.{Entry}
use Rattle.spec_tso.specs.State.{State, without_queues, thread_of, enabled}
use Rattle.tso_machine.specs.declared.state.Pending.{Pending}
use Rattle.tso_machine.specs.declared.state.QueuedMachine.{QueuedMachine}
use Rattle.tso_machine.specs.Slots.{no_store, queue_at}

-- what a machine with queues has in common with the machine of sequential consistency
abbrev pub core_of : QueuedMachine → Machine
core_of m = record { threads = m.threads; memory = m.memory; last = m.last }

-- where thread t's queue begins and ends
abbrev pub head_at : QueuedMachine → ℕ → ℕ
head_at m t = get_or m.heads t 0

abbrev pub tail_at : QueuedMachine → ℕ → ℕ
tail_at m t = get_or m.tails t 0

-- where thread t's slots end: the next thread's queue begins behind them, and there are sixteen
abbrev pub limit_at : QueuedMachine → ℕ → ℕ
limit_at m t = get_or m.heads (t + 1) 16

abbrev pub slot_at : QueuedMachine → ℕ → Pending
slot_at m k = get_or m.slots k no_store

-- thread t's queue, oldest first
abbrev pub queue_of : QueuedMachine → ℕ → List Entry
queue_of m t = queue_at m.slots (head_at m t) (tail_at m t - head_at m t)

-- what a step of thread t needs of the machine: its thread, memory, last writes, the slots, and where its queue begins and ends
pub record Parts : Type 0 where
  pub thread : ThreadState
  pub memory : List ℕ
  pub last : List LastWrite
  pub slots : List Pending
  pub head : ℕ
  pub tail : ℕ

abbrev pub parts_of : QueuedMachine → ℕ → Parts
parts_of m t = record {
  thread = SC.thread_at (core_of m) t;
  memory = m.memory;
  last = m.last;
  slots = m.slots;
  head = head_at m t;
  tail = tail_at m t;
}

-- the machine holds this state, of a program whose code stands in these rows, in threads of these lengths
pub record Holds (code lengths : List ℕ) (m : QueuedMachine) (σ : State) : Type 0 where
  pub core : SC.Holds code lengths (core_of m) (without_queues σ)
  pub sizes : (length m.heads ≡ 6) × (length m.tails ≡ 6) × (length m.slots ≡ 16)
  -- a thread that has not ended has at most sixteen instructions
  pub short : (t : ℕ) → t < 6 → (SC.thread_at (core_of m) t).at < get_or lengths t 0 → get_or lengths t 0 ≤ 16
  pub queues : (t : ℕ) → t < 6 → (thread_of σ t).queue ≡ queue_of m t
  pub ordered : (t : ℕ) → t < 6 → head_at m t ≤ tail_at m t
  -- each access that is left has a slot
  pub room : (t : ℕ) → t < 6 → tail_at m t + accesses (thread_of σ t).local.rest ≤ limit_at m t
  pub places : (k : ℕ) → k < 16 → (slot_at m k).location < 8

-- the machine holds a state in which the byte b may step
pub record MayStep (code lengths : List ℕ) (m : QueuedMachine) (b : ℕ) : Type 0 where
  pub state : State
  pub holds : Holds code lengths m state
  pub may : enabled state b ≡ true
