use Rattle.std.proofs.Common.{rules}
use Rattle.table.specs.Places.{slot_of}
use Rattle.table.proofs.placing.slot.Goals as goal

pub returns : goal.returns
unfolding slot_of
returns c = search rules
