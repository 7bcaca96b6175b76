use Rattle.std.proofs.Common.{ℕ, ◌-◌, sym, ◌∙◌, ap₂}
use Rattle.tso_machine.specs.Slots.{queue_at}
use Rattle.tso_order.specs.Freed.{stores_to}
use Rattle.tso_order.proofs.HeldDeeds.{stores_none, stores_here, stores_on}
use Rattle.tso_order.proofs.waiting.is_pending.Goals as goal

pub loop-k-init : goal.loop-k-init
loop-k-init c = ap₂ (λ (i j : ℕ). stores_to c.args.l (queue_at c.args.slots.now i (j - i))) (sym c.wide-k.ensures.same) (sym c.wide-k-end.ensures.same)

pub returns-then-slots-k : goal.returns-then-slots-k
returns-then-slots-k c = sym (c.loop-k.invariant ∙ stores_here c.args.slots.now c.loop-k.k c.wide-k-end.result c.args.l c.loop-k-test.true c.if-slots-k.true)

pub loop-k-preserved : goal.loop-k-preserved
loop-k-preserved c = c.loop-k.invariant ∙ stores_on c.args.slots.now c.loop-k.k c.wide-k-end.result c.args.l c.loop-k-test.true c.if-slots-k.false

pub returns : goal.returns
returns c = sym (c.loop-k.invariant ∙ stores_none c.args.slots.now c.loop-k.k c.wide-k-end.result c.args.l c.loop-k-test.false)
