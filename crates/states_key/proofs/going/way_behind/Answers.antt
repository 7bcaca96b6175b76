-- `way_behind` drops the oldest access before it adds the new one.
use Rattle.std.proofs.Common.{arith}
use Rattle.theory_sc_key.specs.Ways.{way_behind}
use Rattle.states_key.proofs.going.way_behind.Goals as goal

pub returns : goal.returns
unfolding way_behind
returns c = omega arith
