-- `with_at` chooses one value after the other. The invariant: the first n have been chosen.
use Rattle.std.proofs.Common.{◌≡◌}
use Rattle.machine_local.proofs.Chosen.{chosen}
use Rattle.machine_local.proofs.local.with_at.Given as goal

abbrev pub invariant-loop-n : goal.invariant-loop-n
invariant-loop-n g l = l.changed ≡ chosen l.values l.k l.v l.n
