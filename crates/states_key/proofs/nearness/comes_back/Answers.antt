use Rattle.std.proofs.Common.{refl, sym, ◌∙◌, arith}
use Rattle.theory_sc_key.proofs.Ways.{comes_back_at}
use Rattle.states_key.proofs.NearSets.{back_not, back_on, back_less}
use Rattle.states_key.proofs.nearness.comes_back.Goals as goal

pub loop-y-init : goal.loop-y-init
loop-y-init c = λ h. (h, refl)

pub returns-then-from-y : goal.returns-then-from-y
returns-then-from-y c =
    let a = c.args in
    let now = c.loop-y in
    λ h. sym ((now.invariant h).1 ∙ back_not a.stamps.now a.word now.y now.z c.from.result c.from.ensures c.loop-y-test.true (now.invariant h).0 c.if-from-y.true)

pub loop-y-smaller : goal.loop-y-smaller
loop-y-smaller c = back_less c.args.stamps.now c.args.word c.loop-y.y c.loop-y.z c.from.result c.from.ensures c.if-from-y.false

pub loop-y-preserved : goal.loop-y-preserved
loop-y-preserved c =
    let a = c.args in
    let now = c.loop-y in
    λ h. (
      omega (arith, (now.invariant h).0),
      (now.invariant h).1 ∙ back_on a.stamps.now a.word now.y now.z c.from.result c.from.ensures c.loop-y-test.true (now.invariant h).0 c.if-from-y.false,
    )

pub returns : goal.returns
returns c =
    let a = c.args in
    let now = c.loop-y in
    λ h. sym ((now.invariant h).1 ∙ comes_back_at a.stamps.now a.word now.y now.z c.loop-y-test.false)
