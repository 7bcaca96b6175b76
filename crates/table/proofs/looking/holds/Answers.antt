use Rattle.std.proofs.Common.{arith}
use Rattle.table.proofs.Compared.{pointwise_same}
use Rattle.table.proofs.looking.holds.Goals as goal

pub returns : goal.returns
returns c = search (arith, pointwise_same)
