-- What the end of a schedule that was carried out says of its replay.
use Rattle.std.specs.Prelude.{Result, Ok, Err, ⊤}
use Prim.Native.Nat.{ℕ}
use mathlib.Core.Path.{◌≡◌, refl, sym, ap, ◌∙◌}
use mathlib.Core.Option.{none, some}
use mathlib.Core.List.{List}
use lib.ListN.{take}
use Rattle.spec_file.specs.declared.refusal.Refusal.{Refusal}
use Rattle.spec_file.specs.Program.{Program}
use Rattle.spec_schedules.specs.Order.{Schedule}
use Rattle.spec_schedules.specs.System.{run}
use Rattle.machine_replay.specs.declared.replaying.Run.{Run}
use Rattle.spec_sc.specs.State.{State, SC, start}
use Rattle.spec_sc.specs.Replay.{whole, refused, replay}
use Rattle.spec_model.specs.Answers.{refuses_from}
use Rattle.spec_sc.proofs.Refused as Model
use Rattle.spec_sc.proofs.Refused.{refuses_replayed}
use Rattle.machine_replay.specs.Carried.{verdict_of, refusal_of, HoldsRun}

module _ (code lengths : List ℕ) (p : Program) (s : Schedule) (r : Run) (held : HoldsRun code lengths p s r) where
  abbrev end : State
  end = run SC (start p) (take r.steps s)

  pub verdict_whole : r.end ≡ Ok tt → replay p s ≡ whole (run SC (start p) (take r.steps s))
  unfolding verdict_of
  verdict_whole e = sym held.answer ∙ ap (λ (v : Result ⊤ Refusal). verdict_of v end) e

  pub verdict_refused : (q : Refusal) → r.end ≡ Err q → replay p s ≡ refused q.number q.place
  unfolding verdict_of
  verdict_refused q e = sym held.answer ∙ ap (λ (v : Result ⊤ Refusal). verdict_of v end) e

-- what refuses a schedule, by the run's end
pub refusal_whole : refusal_of (Ok tt) ≡ none
unfolding refusal_of
refusal_whole = refl

pub refusal_refused : (q : Refusal) → refusal_of (Err q) ≡ some (q.number, q.place)
unfolding refusal_of
refusal_refused q = refl

by_verdict : (v : Result ⊤ Refusal) (σ : State) → refusal_of v ≡ Model.refusal_of (verdict_of v σ)
unfolding refusal_of Model.refusal_of verdict_of
by_verdict (Ok _) σ = refl
by_verdict (Err r) σ = refl

-- THE END TELLS WHAT REFUSES the schedule in the memory model
pub verdict_refuses : (code lengths : List ℕ) (p : Program) (s : Schedule) (r : Run) → HoldsRun code lengths p s r → refusal_of r.end ≡ refuses_from SC 0 (start p) s
verdict_refuses code lengths p s r h = by_verdict r.end (run SC (start p) (take r.steps s)) ∙ ap Model.refusal_of h.answer ∙ sym (refuses_replayed p s)
