use Rattle.std.proofs.Common.{rules}
use Rattle.theory_sc.specs.Sets.{addend}
use Rattle.states_key.proofs.values.put.Goals as goal

pub returns-clause-next : goal.returns-clause-next
unfolding addend
returns-clause-next c = search rules
