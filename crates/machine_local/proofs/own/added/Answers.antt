-- The sum stands in the register.
use Rattle.spec_sc.specs.Local.{sum32, outcome}
use Rattle.machine_local.proofs.own.added.Goals as goal

pub returns : goal.returns
unfolding sum32 outcome
returns c = rw (c.with_at.ensures, c.wrapping_add_u32-v.ensures.value, c.value.ensures, c.register_at.ensures, c.wide-k.ensures.same)
