-- What is left to the threads of a state, as the code has it: their code by counters of instructions, their queues in slots.
use Rattle.std.specs.Prelude.{ℕ, ◌-◌, ◌<◌, ◌≡◌, true, List, get_or, drop}
use Rattle.file_rows.specs.Rows.{thread_code}
use Rattle.spec_tso.specs.State.{State, Kind, thread_of, place, byte_for, enabled}
use Rattle.tso_machine.specs.Slots.{queue_at}
use Rattle.tso_machine.specs.declared.state.Pending.{Pending}

pub record Shown (code lengths at : List ℕ) (slots : List Pending) (heads tails : List ℕ) (σ : State) : Type 0 where
  pub rests : (t : ℕ) → t < 6 → (thread_of σ t).local.rest ≡ drop (get_or at t 0) (thread_code code t (get_or lengths t 0))
  pub queues : (t : ℕ) → t < 6 → (thread_of σ t).queue ≡ queue_at slots (get_or heads t 0) (get_or tails t 0 - get_or heads t 0)

-- thread t may make a step of this kind, to one of the eight locations
abbrev pub ReadyAt : State → Kind → ℕ → Type 0
ReadyAt σ k t = (enabled σ (byte_for k t) ≡ true) × (place σ k t < 8)
