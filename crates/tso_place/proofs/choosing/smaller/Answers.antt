-- Nobody, where nobody was in the set and no byte is smaller.
use Rattle.std.proofs.Common.{sym}
use Rattle.tso_order.proofs.Choices.{none_smaller}
use Rattle.tso_place.proofs.choosing.smaller.Goals as goal

pub returns-then-is_none_smaller : goal.returns-then-is_none_smaller
returns-then-is_none_smaller c = let a = c.args in let q = c.is_none_smaller.ensures c.if-is_none_smaller.true in sym (none_smaller a.may a.before a.b a.first q.0 q.1)
