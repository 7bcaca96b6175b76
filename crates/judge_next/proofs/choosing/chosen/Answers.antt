use Rattle.std.proofs.Common.{◌∙◌, sym}
use Rattle.judge_next.proofs.WalkChoice.{chosen_one, chosen_none}
use Rattle.judge_next.proofs.choosing.chosen.Goals as goal

pub returns-then-is_allowed-clause-next : goal.returns-then-is_allowed-clause-next
returns-then-is_allowed-clause-next c =
    let a = c.args in
    λ p g s W. chosen_one a.program.now.code a.program.now.lengths a.program.now.threads a.pairs a.places p g a.m a.counts s W c.loop-t.t c.loop-t-test.true (c.loop-t.invariant p g s W)
    (sym (c.is_allowed.ensures p g s W) ∙ c.if-is_allowed.true)

pub returns-clause-next : goal.returns-clause-next
returns-clause-next c =
    let a = c.args in
    λ p g s W. chosen_none a.program.now.code a.program.now.lengths a.program.now.threads a.pairs a.places p g a.m a.counts s W c.loop-t.t c.loop-t-test.false (c.loop-t.invariant p g s W)
