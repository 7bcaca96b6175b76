-- The sum is written.
use Rattle.std.proofs.Common.{ne_eqb}
use Rattle.spec_sc.specs.Local.{sum32}
use Rattle.machine_access.proofs.accessing.Access.adding.Goals as goal

pub returns : goal.returns
unfolding sum32
returns c = rw (c.writing.ensures, c.wrapping_add_u32.ensures.value, ne_eqb _ _ c.if-p-eq0.false)
