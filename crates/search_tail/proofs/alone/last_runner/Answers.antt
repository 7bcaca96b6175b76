-- `last_runner` reads the set of those that have not ended: none, or one alone.
use Rattle.std.proofs.Common.{sym, ◌∙◌, inl, inr, ◌≡◌, ◌<◌, ◌^◌, false, Some, None, MatchOption}
use Rattle.spec_schedules.specs.System.{ended}
use Rattle.spec_sc.specs.State.{SC}
use Rattle.spec_sc.specs.Graph.{end_of}
use Rattle.theory_sc.specs.LateSet.{late_set}
use Rattle.theory_sc.specs.Sleepers.{sleepers}
use Rattle.search_place.proofs.ReachedStep.{reached_ended, reached_going}
use Rattle.search_tail.specs.Runner.{Settled}
use Rattle.search_tail.proofs.RunOut.{alone_by}
use Rattle.search_tail.proofs.alone.last_runner.Goals as goal

pub returns-then-live-eq0-clause-settled : goal.returns-then-live-eq0-clause-settled
returns-then-live-eq0-clause-settled c = λ code lengths class threads groups x p v at e z.
    inl (reached_ended code lengths class threads groups x p v at (e ∙ c.if-live-eq0.true))

pub returns-then-tight-clause-settled : goal.returns-then-tight-clause-settled
returns-then-tight-clause-settled c = λ code lengths class threads groups x p v at e.
    reached_going code lengths class threads groups x p v at (λ q. c.if-live-eq0.false (sym e ∙ q))

pub returns-clause-settled : goal.returns-clause-settled
returns-clause-settled c = λ code lengths class threads groups x p v at e.
    let going : ended SC (end_of p v) ≡ false = reached_going code lengths class threads groups x p v at (λ q. c.if-live-eq0.false (sym e ∙ q)) in
    let apart = c.if-tight.false in
    let live = c.args.live in
    elim c.sole.result as (λ r. MatchOption r Unit (λ t. (t < 6) × (live ≡ 2 ^ t)) → MatchOption r (ended SC (end_of p v) ≡ false) (λ t. sleepers (end_of p v) (late_set p v) ≡ 0 → Settled p v t c.args.tight)) [
      | None ↦ λ h. going
      | Some t ↦ λ h z. inr (apart, alone_by code lengths class threads groups x p v at t h.0 (e ∙ h.1), z)
    ] c.sole.ensures
