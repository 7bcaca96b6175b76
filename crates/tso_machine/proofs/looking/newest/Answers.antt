use Rattle.std.proofs.Common.{◌∙◌}
use Rattle.tso_machine.proofs.InSlots.{look_here, look_before, look_nothing}
use Rattle.tso_machine.proofs.looking.newest.Goals as goal

pub returns-then-slots-k : goal.returns-then-slots-k
returns-then-slots-k c = c.loop-k.invariant ∙ look_here c.args.slots c.args.head c.loop-k.k c.args.l c.loop-k-test.true c.if-slots-k.true

pub loop-k-preserved : goal.loop-k-preserved
loop-k-preserved c = c.loop-k.invariant ∙ look_before c.args.slots c.args.head c.loop-k.k c.args.l c.loop-k-test.true c.if-slots-k.false

pub returns : goal.returns
returns c = c.loop-k.invariant ∙ look_nothing c.args.slots c.args.head c.loop-k.k c.args.l c.loop-k-test.false
