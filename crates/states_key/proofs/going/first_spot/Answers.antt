-- `first_spot` adds six ways of no access.
use Rattle.states_key.proofs.KeyWords.{stands_first}
use Rattle.states_key.proofs.going.first_spot.Goals as goal

pub returns : goal.returns
returns c = λ code lengths class threads groups p at. stands_first code lengths class threads groups c.args.x p at
