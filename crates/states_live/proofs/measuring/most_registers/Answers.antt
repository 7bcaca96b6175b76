use Rattle.std.proofs.Common.{ℕ, ◌*◌, ◌≤◌, ◌≡◌, refl, subst, arith, length}
use Rattle.spec_schedules.specs.Lists.{range, filter}
use Rattle.theory_sc_key.specs.Key.{live_at}
use Rattle.states_live.proofs.LiveCount.{live_none, live_more, covered}
use Rattle.states_live.proofs.measuring.most_registers.Goals as goal

pub loop-t-init : goal.loop-t-init
loop-t-init c = (omega arith, λ σ all. live_none σ 0 0 refl)

pub loop-t-preserved : goal.loop-t-preserved
loop-t-preserved c =
    let now = c.loop-t in
    let most = c.most_live-sum in (
      omega (arith, now.invariant.0, most.ensures.0),
      λ σ all. live_more c.args.masks.now σ all now.t now.sum most.result c.loop-t-test.true (now.invariant.1 σ all) most.ensures.1,
    )

pub returns : goal.returns
returns c =
    let now = c.loop-t in
    let end : now.t ≡ 6 = omega (arith, now.auto.t-end, c.loop-t-test.false) in (
      omega (arith, now.invariant.0, end),
      λ code lengths threads p loaded lives σ stands.
          subst (λ (t : ℕ). length (filter (live_at σ) (range 0 (4 * t))) ≤ now.sum) end (now.invariant.1 σ (covered code lengths c.args.masks.now threads p loaded lives σ stands)),
    )
