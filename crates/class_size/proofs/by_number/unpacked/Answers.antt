-- `unpacked` gives a row's digits: what it computes is the definition.
use Rattle.std.proofs.Common.{refl}
use Rattle.spec_schedules.specs.Permutations.{unpacked}
use Rattle.class_size.proofs.by_number.unpacked.Goals as goal

pub returns : goal.returns
unfolding unpacked
returns c = refl
