-- `place` by its tests of the widths, and the slot that the hash chooses.
use Rattle.std.proofs.Common.{rules}
use Rattle.table.specs.Places.{place_of}
use Rattle.table.proofs.placing.place.Goals as goal

pub returns-then-key-gt4096 : goal.returns-then-key-gt4096
unfolding place_of
returns-then-key-gt4096 c = search rules

pub returns : goal.returns
unfolding place_of
returns c = search rules
