-- The four first bytes are those from 10 to 13.
use Rattle.std.proofs.Common.{arith, sym}
use Rattle.machine_local.proofs.HeldRows.{access_in, access_out}
use Rattle.machine_local.proofs.own.is_access.Goals as goal

pub returns-in-16-to-19 : goal.returns-in-16-to-19
returns-in-16-to-19 c = sym (access_in c.args.code.now c.args.row c.requires (omega arith) (omega arith))

pub returns-in_default : goal.returns-in_default
returns-in_default c = sym (access_out c.args.code.now c.args.row c.requires (λ l u. omega (arith, l, u)))

pub returns-in_default-2 : goal.returns-in_default-2
returns-in_default-2 c = sym (access_out c.args.code.now c.args.row c.requires (λ l u. omega (arith, l, u)))
