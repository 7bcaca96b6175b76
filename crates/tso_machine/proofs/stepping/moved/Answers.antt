-- The store in the head's slot goes to memory.
use Rattle.std.proofs.Common.{arith, mod-lt}
use Rattle.tso_machine.proofs.CodeSteps.{move_code}
use Rattle.tso_machine.proofs.stepping.moved.Goals as goal

pub returns : goal.returns
returns c = let a = c.args in record { within = (mod-lt c.wide.result (omega arith), mod-lt c.wide-j.result (omega arith)); step = λ code lengths memory last m σ held eP ok. move_code code lengths m σ a.t held ok _ eP c.wide-j.result c.wide.result c.wide-j.ensures.same c.wide.ensures.same }
