-- The two values are compared, as equal or as two's complement.
use Rattle.spec_sc.specs.Local.{compare, holds}
use Rattle.machine_local.proofs.comparing.holds.Goals as goal

pub returns-in-Equal : goal.returns-in-Equal
unfolding compare holds
returns-in-Equal c = rw (c.in-Equal.is, c.value-b.ensures, c.register_at-a.ensures, c.wide.ensures.same)

pub returns-in-AtMost : goal.returns-in-AtMost
unfolding compare holds
returns-in-AtMost c = rw (c.in-AtMost.is, c.at_most.ensures, c.value-b.ensures, c.register_at-a.ensures, c.wide.ensures.same)
