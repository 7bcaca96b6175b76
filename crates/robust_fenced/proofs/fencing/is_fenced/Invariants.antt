-- `is_fenced` asks one thread after the other. The invariant: the threads so far are fenced.
use Rattle.std.proofs.Common.{◌≤◌}
use Rattle.robust_fenced.proofs.Passing.{Below}
use Rattle.robust_fenced.proofs.fencing.is_fenced.Given as goal

abbrev pub invariant-loop-t : goal.invariant-loop-t
invariant-loop-t l = (l.t ≤ l.program.threads) × Below l.program.code l.program.lengths l.t
