-- Skipped or not.
use Rattle.spec_sc.specs.Local.{outcome}
use Rattle.machine_local.proofs.own.skipping.Goals as goal

pub returns : goal.returns
unfolding outcome
returns c = rw (c.choose.ensures, c.holds.ensures)
