-- `is_fenced_thread` goes through the rows. The invariant: if what is left is fenced, with what may be pending here, so is the whole.
use Rattle.std.proofs.Common.{◌≤◌}
use Rattle.robust_fenced.proofs.Passing.{Left}
use Rattle.robust_fenced.proofs.fencing.is_fenced_thread.Given as goal

abbrev pub invariant-loop-i : goal.invariant-loop-i
invariant-loop-i l = (l.i ≤ l.n) × Left l.code l.t l.n l.pending l.over l.i
