-- The two operands.
use Rattle.spec_sc.specs.Local.{eval}
use Rattle.machine_local.proofs.local.value.Goals as goal

pub returns-in-Constant : goal.returns-in-Constant
unfolding eval
returns-in-Constant c = rw c.in-Constant.is

pub returns-in-Register : goal.returns-in-Register
unfolding eval
returns-in-Register c = rw c.in-Register.is c.register_at.ensures
