-- `accesses_below` counts one thread after the other. The invariant: the accesses of the threads so far are counted.
use Rattle.std.proofs.Common.{◌≡◌, ◌*◌, ◌≤◌}
use Rattle.machine_access.specs.Counted.{accesses_below}
use Rattle.machine_access.proofs.counting.accesses_below.Given as goal

abbrev pub invariant-loop-t : goal.invariant-loop-t
invariant-loop-t l = (l.t ≤ l.n) × (l.count ≤ l.t * 16) × (l.count ≡ accesses_below l.code l.lengths l.t)
