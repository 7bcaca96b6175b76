-- The operand's value stands in the register.
use Rattle.spec_sc.specs.Local.{outcome}
use Rattle.machine_local.proofs.own.assigned.Goals as goal

pub returns : goal.returns
unfolding outcome
returns c = rw (c.with_at.ensures, c.wide.ensures.same, c.value-v.ensures)
