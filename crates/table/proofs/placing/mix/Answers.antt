use Rattle.std.proofs.Common.{rules}
use Rattle.table.specs.Places.{mixed}
use Rattle.table.proofs.placing.mix.Goals as goal

pub returns : goal.returns
unfolding mixed
returns c = search rules
