-- A full schedule that was carried out: the machine behind it has the outcome, in both memory models.
use Rattle.std.specs.Prelude.{Result, Ok, Err, ⊤}
use Prim.Native.Nat.{ℕ}
use mathlib.Core.Path.{◌≡◌, refl, sym, ap₂, subst, ◌∙◌}
use mathlib.Core.Bool.{Bool}
use mathlib.Core.Option.{none, none-ne-some}
use mathlib.Core.List.{List}
use Rattle.spec_file.specs.declared.refusal.Refusal.{Refusal}
use Rattle.spec_file.specs.Program.{Program}
use Rattle.spec_schedules.specs.Order.{Schedule}
use Rattle.spec_schedules.specs.System.{run}
use Rattle.spec_model.specs.Model.{Full}
use Rattle.spec_model.proofs.Refusing.{full_goes}
use Rattle.spec_sc.specs.State.{State, SC, start, fails, memory_of}
use Rattle.spec_sc.specs.Sequential.{sc}
use Rattle.spec_tso.specs.State as Queues
use Rattle.spec_tso.specs.TotalStoreOrder.{tso}
use Rattle.machine.specs.declared.state.Machine.{Machine}
use Rattle.machine.specs.Held.{Holds}
use Rattle.machine.specs.Asked.{some_failed}
use Rattle.machine.proofs.HeldAsking.{fails_by_lem}
use Rattle.machine_replay.specs.declared.replaying.Run.{Run}
use Rattle.machine_replay.specs.Carried.{refusal_of, HoldsRun}
use Rattle.machine_replay.proofs.Verdicts.{refusal_refused, verdict_refuses}
use Rattle.tso_replay.specs.declared.replaying.Run as QueueRun
use Rattle.tso_replay.specs.Carried as QueueCarried
use Rattle.tso_machine.specs.Held as QueueHeld
use Rattle.spec_covers.specs.declared.outcome.Outcome.{Outcome}
use Rattle.spec_across.specs.Under.{outcome_under}
use Rattle.states_outcomes.proofs.Values.{values_memory}

abbrev outcome : List ℕ → Bool → Outcome
outcome m f = record { memory = m; fails = f }

-- an end that refuses nothing
pub whole_of : (v : Result ⊤ Refusal) → refusal_of v ≡ none → v ≡ Ok tt
whole_of (Ok _) q = refl
whole_of (Err r) q = absurd (none-ne-some (r.number, r.place) (sym q ∙ refusal_refused r))

-- what the machine that holds a state shows of it
shown : (code lengths : List ℕ) (m : Machine) (σ : State) → Holds code lengths m σ → (f : Bool) → f ≡ some_failed m.threads → outcome m.memory f ≡ outcome (memory_of σ) (fails σ)
shown code lengths m σ h f e = ap₂ outcome (values_memory σ m.memory h.eight h.sizes.1 h.values) (e ∙ fails_by_lem h)

module _ (code lengths : List ℕ) (p : Program) (s : Schedule) where
  module _ (r : Run) (held : HoldsRun code lengths p s r) (full : Full sc p s) where
    made : Holds code lengths r.machine (run SC (start p) s)
    made =
        subst (λ (x : Schedule). Holds code lengths r.machine (run SC (start p) x))
        (held.all (whole_of r.end (verdict_refuses code lengths p s r held ∙ full_goes SC s 0 (start p) full))) held.holds

    pub sequential_outcome : (f : Bool) → f ≡ some_failed r.machine.threads → outcome r.machine.memory f ≡ outcome_under sc p s
    unfolding outcome_under
    sequential_outcome f e = shown code lengths r.machine (run SC (start p) s) made f e

  module _ (r : QueueRun.Run) (held : QueueCarried.HoldsRun code lengths p s r) (full : Full tso p s) where
    queued : QueueHeld.Holds code lengths r.machine (run Queues.TSO (Queues.start p) s)
    queued =
        subst (λ (x : Schedule). QueueHeld.Holds code lengths r.machine (run Queues.TSO (Queues.start p) x))
        (held.all (whole_of r.end (held.answer ∙ full_goes Queues.TSO s 0 (Queues.start p) full))) held.holds

    pub queued_outcome : (f : Bool) → f ≡ some_failed r.machine.threads → outcome r.machine.memory f ≡ outcome_under tso p s
    unfolding outcome_under Queues.memory_of Queues.fails
    queued_outcome f e = shown code lengths (QueueHeld.core_of r.machine) (Queues.without_queues (run Queues.TSO (Queues.start p) s)) queued.core f e
