use Rattle.std.proofs.Common.{ℕ, ◌-◌, ◌<◌, ◌≡◌, ap, ◌∙◌, ◌++◌, arith}
use Rattle.tso_machine.specs.Slots.{queue_at}
use Rattle.theory_sc_key.specs.Key.{padded}
use Rattle.theory_tso_key.specs.Words.{stored}
use Rattle.tso_key.proofs.Filled.{values_none, values_more}
use Rattle.tso_key.proofs.waiting.put_values.Goals as goal

pub loop-i-init : goal.loop-i-init
loop-i-init c = let a = c.args in (omega arith, c.requires.0, omega arith, λ l e q. q ∙ values_none a.slots.now a.head l)

pub loop-i-preserved : goal.loop-i-preserved
loop-i-preserved c =
    let few : c.loop-i.at < 16 = let p = c.requires in
    let l = c.loop-i in
    omega (arith, p.0, p.2, l.invariant.2, c.loop-i-test.true) in
    let a = c.args in
    let l = c.loop-i in
    let t = c.loop-i-test.true in (
      omega (arith, l.invariant.0),
      omega (arith, t),
      omega (arith, l.invariant.0, l.invariant.2),
      λ k e q. values_more a.slots.now a.head l.i l.invariant.0 k a.n l.at l.values e l.invariant.2 (few) (l.invariant.3 k e q),
    )

pub returns : goal.returns
returns c k e q =
    let a = c.args in
    let l = c.loop-i in
    let same : l.i ≡ a.tail = omega (arith, l.invariant.1, c.loop-i-test.false) in
    l.invariant.3 k e q ∙ ap (λ (j : ℕ). padded 16 (k ++ stored (queue_at a.slots.now a.head (j - a.head)))) same
