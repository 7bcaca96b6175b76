-- Queues in slots and sets behind a step, as the code has them.
use Rattle.std.specs.Prelude.{ℕ, ◌<◌, ◌≤◌, ◌≡◌, Bool, true, not, ◌&&◌, List, eqb, get_or}
use Rattle.spec_schedules.specs.Lists.{any}
use Rattle.spec_schedules.specs.Sets.{has}
use Rattle.theory_sc.specs.Sets.{set_of}
use Rattle.spec_tso.specs.Queue.{Entry}
use Rattle.spec_tso.specs.State.{State, byte_for, access, move, enabled}
use Rattle.machine_access.specs.declared.thread.ThreadState.{ThreadState}
use Rattle.tso_machine.specs.declared.state.Pending.{Pending}
use Rattle.tso_machine.specs.declared.state.QueuedMachine.{QueuedMachine}
use Rattle.tso_machine.specs.Held.{queue_of, Holds}
use Rattle.theory_tso.specs.Deeds.{deed, waits}
use Rattle.theory_tso.specs.declared.deed.Deed.{Deed}
use Rattle.tso_order.specs.declared.sets.Sets.{Sets}

-- a store to l is pending
abbrev pub stores_to : ℕ → List Entry → Bool
stores_to l q = any (λ (e : Entry). eqb e.location l) q

-- each queue ends within the slots
abbrev pub Ends : List ℕ → Type 0
Ends tails = (t : ℕ) → t < 6 → get_or tails t 0 ≤ 16

-- the answer b says of every state that a machine with these threads and this memory may hold whether thread u is in the set and its access
-- need not stay behind a step that did e; the threads in `holding` have a store pending to its location
pub record AccessGoesOn (code : List ℕ) (threads : List ThreadState) (memory : List ℕ) (holding set : ℕ) (e : Deed) (u : ℕ) (b : Bool) : Type 0 where
  pub says : (lengths : List ℕ) (m : QueuedMachine) (σ : State) → Holds code lengths m σ
      → m.threads ≡ threads → m.memory ≡ memory → has holding u ≡ stores_to e.location (queue_of m u)
      → (has set u ≡ true → enabled σ (byte_for access u) ≡ true) → b ≡ (has set u && not (waits e (deed σ (byte_for access u))))

-- likewise of its move, where the machine has these queues
pub record MoveGoesOn (slots : List Pending) (heads : List ℕ) (set : ℕ) (e : Deed) (u : ℕ) (b : Bool) : Type 0 where
  pub says : (code lengths : List ℕ) (m : QueuedMachine) (σ : State) → Holds code lengths m σ → m.slots ≡ slots → m.heads ≡ heads
      → (has set u ≡ true → enabled σ (byte_for move u) ≡ true) → b ≡ (has set u && not (waits e (deed σ (byte_for move u))))

-- of these sets those that need not stay behind a step that did e and led to σ
pub record HoldsSets (σ : State) (e : Deed) (s r : Sets) : Type 0 where
  pub live : r.live ≡ s.live
  pub moving : r.moving ≡ s.moving
  pub late : r.late ≡ set_of (λ u. has s.late u && not (waits e (deed σ (byte_for access u)))) 6
  pub overdue : r.overdue ≡ set_of (λ u. has s.overdue u && not (waits e (deed σ (byte_for move u)))) 6
  pub far : r.far ≡ set_of (λ u. has s.far u && not (waits e (deed σ (byte_for move u)))) 6
