use Rattle.std.proofs.Common.{ℕ, ◌≤◌, arith, sym, ◌∙◌, ltb-true, ltb-false, get_or}
use Rattle.machine.specs.Held.{thread_at}
use Rattle.machine.proofs.HeldAsking.{one_more}
use Rattle.tso_machine.specs.Held.{core_of, head_at, tail_at}
use Rattle.tso_machine.proofs.HeldMay.{left_not_ended, pends_not_ended, all_ended}
use Rattle.tso_machine.proofs.asking.ended_all.Goals.{then-m-t-via-then-m-t, then-m-t-via-else-m-t+then-pends}
use Rattle.tso_machine.proofs.asking.ended_all.Goals as goal

pub returns-then-m-t : goal.returns-then-m-t
returns-then-m-t c = λ code σ held. elim c.then-m-t.branch [
  | then-m-t-via-then-m-t w ↦ left_not_ended held c.loop-t.t c.loop-t-test.true w.if-m-t.true
  | then-m-t-via-else-m-t+then-pends w ↦ pends_not_ended held c.loop-t.t c.loop-t-test.true (ltb-true _ _ (sym w.pends.ensures ∙ w.if-pends.true))
]

pub loop-t-preserved : goal.loop-t-preserved
loop-t-preserved c = (
  omega (arith, c.loop-t-test.true),
  one_more (λ (u : ℕ). (get_or c.args.lengths.now u 0 ≤ (thread_at (core_of c.args.m) u).at) × (tail_at c.args.m u ≤ head_at c.args.m u)) c.loop-t.t c.loop-t.invariant.1 (c.if-m-t.false, ltb-false _ _ (sym c.pends.ensures ∙ c.if-pends.false)),
)

pub returns : goal.returns
returns c = λ code σ held. all_ended held (λ u b. c.loop-t.invariant.1 u (omega (arith, b, c.loop-t-test.false)))
