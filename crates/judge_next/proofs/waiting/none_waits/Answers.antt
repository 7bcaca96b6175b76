use Rattle.std.proofs.Common.{ℕ, ◌≡◌, false, ◌∙◌, sym, arith}
use borrow.Author.Count.{below_more}
use Rattle.judge_next.specs.HeldWalk.{waits_at}
use Rattle.judge_next.proofs.EntriesWait.{one_waits, no_one_waits}
use Rattle.judge_next.proofs.waiting.none_waits.Goals as goal

pub returns-then-waits : goal.returns-then-waits
returns-then-waits c =
    let a = c.args in
    λ g place σ D mark. sym (one_waits a.pairs a.places a.threads a.m g place σ D a.l a.u a.j a.t a.d c.loop-k.k c.loop-k-test.true mark (sym c.waits.ensures ∙ c.if-waits.true))

pub loop-k-preserved : goal.loop-k-preserved
loop-k-preserved c =
    let a = c.args in
    below_more (λ (i : ℕ). waits_at a.pairs a.places a.m i a.l a.u a.j a.t a.d ≡ false) c.loop-k.k c.loop-k.invariant (sym c.waits.ensures ∙ c.if-waits.false)

pub returns : goal.returns
returns c =
    let a = c.args in
    λ g place σ D mark. sym (no_one_waits a.pairs a.places a.threads a.m g place σ D a.l a.u a.j a.t a.d (λ i h. c.loop-k.invariant i (omega arith)))
