use Rattle.std.proofs.Common.{sym, ap, ◌∙◌, ◌≡◌, arith}
use Rattle.theory_sc.specs.Sets.{set_of}
use Rattle.theory_sc.specs.Sleepers.{sleeps_in, unwoken}
use Rattle.theory_sc.proofs.Sets.{set_none, set_grown, bound_grown}
use Rattle.search_place.proofs.Bits.{chosen}
use Rattle.search_rules.proofs.sleeping.unwoken.Goals as goal

pub loop-t-init : goal.loop-t-init
loop-t-init c = (omega arith, λ σ rests left. sym (set_none (sleeps_in σ c.args.set) 0 (λ u h. absurd (omega arith))))

pub overflow_add-next : goal.overflow_add-next
overflow_add-next c =
    let power = c.power.ensures in
    let choice = chosen _ c.power.result c.choose-next.result c.choose-next.ensures in
    record { fits = omega (arith, c.loop-t.invariant.0, power.0, power.1, choice.1) }

pub loop-t-preserved : goal.loop-t-preserved
loop-t-preserved c =
    let a = c.args in
    let loop = c.loop-t in
    let power = c.power in
    let added = c.choose-next.result in
    let choice = chosen _ _ _ c.choose-next.ensures in (
      bound_grown loop.t loop.next added power.result loop.invariant.0 choice.1 power.ensures.0,
      λ σ rests left. set_grown (sleeps_in σ a.set) loop.t loop.next added power.result c.sleeps_in.result (loop.invariant.1 σ rests left) (c.sleeps_in.ensures σ rests left) power.ensures.0 choice.0,
    )

pub returns : goal.returns
unfolding unwoken
returns c =
    let loop = c.loop-t in
    let e : loop.t ≡ 6 = omega (arith, c.loop-t-test.false) in
    λ σ rests left. loop.invariant.1 σ rests left ∙ ap (set_of (sleeps_in σ c.args.set)) e
