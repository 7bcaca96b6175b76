-- `last_read` is the library's choice of the smaller.
use Rattle.std.proofs.Common.{arith}
use Rattle.std.proofs.lemmas.Bool.Decides.{nat_tests}
use Rattle.std.proofs.lemmas.Grind.{common_steps}
use Rattle.spec_service.specs.Call.{last_read}
use Rattle.service_one.proofs.single.last_read.Goals as goal

pub returns-clause-read : goal.returns-clause-read
unfolding last_read
returns-clause-read c = grind (arith, nat_tests, common_steps)
