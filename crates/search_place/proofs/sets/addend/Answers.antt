-- `addend` is a choice.
use Rattle.search_place.proofs.Bits.{chosen}
use Rattle.search_place.proofs.sets.addend.Goals as goal

pub returns : goal.returns
returns c = chosen c.args.b c.args.k c.choose.result c.choose.ensures
