-- `lone` is its definition.
use Rattle.std.proofs.Common.{rules}
use Rattle.theory_sc.specs.ThreadWords.{lone}
use Rattle.tso_place.proofs.reading.lone.Goals as goal

pub returns : goal.returns
unfolding lone
returns c = search rules
