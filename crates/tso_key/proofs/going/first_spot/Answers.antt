-- Before the first step every way is empty.
use Rattle.tso_key.proofs.Standing.{stands_first}
use Rattle.tso_key.proofs.going.first_spot.Goals as goal

pub returns : goal.returns
returns c code lengths class threads groups p r = stands_first code lengths class threads groups c.args.x p r
