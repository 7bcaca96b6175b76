-- The assertion holds or fails.
use Rattle.std.proofs.Common.{sym, ◌∙◌}
use Rattle.spec_sc.specs.Local.{outcome}
use Rattle.machine_local.proofs.own.asserted.Goals as goal

pub returns-then-holds : goal.returns-then-holds
unfolding outcome
returns-then-holds c = rw (sym c.holds.ensures ∙ c.if-holds.true)

pub returns-else-holds : goal.returns-else-holds
unfolding outcome
returns-else-holds c = rw (sym c.holds.ensures ∙ c.if-holds.false)
