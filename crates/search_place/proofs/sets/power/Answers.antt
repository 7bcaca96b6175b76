-- `power` shifts 1.
use Rattle.search_place.proofs.Bits.{power_six}
use Rattle.search_place.proofs.sets.power.Goals as goal

pub returns : goal.returns
returns c = power_six c.args.t c.requires
