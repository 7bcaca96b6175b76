-- Nothing changes where t is in the set or not already.
use Rattle.tso_order.proofs.Choices.{bit_same}
use Rattle.tso_order.proofs.sets.with_bit.Goals as goal

pub returns-then-is_so : goal.returns-then-is_so
returns-then-is_so c = let a = c.args in let q = c.is_so.ensures c.if-is_so.true in bit_same a.set a.t a.on q.0 q.1
