-- `tail` goes back from the end. The invariant: behind k nothing can fail.
use Rattle.std.proofs.Common.{drop}
use Rattle.spec_file.specs.WellFormed.{Everywhere}
use Rattle.file_rows.specs.Rows.{thread_code}
use Rattle.spec_force.proofs.Silent.{Harmless}
use Rattle.force_moves.proofs.tails.tail.Given as goal

abbrev pub invariant-loop-k : goal.invariant-loop-k
invariant-loop-k l = Everywhere Harmless (drop l.k (thread_code l.code l.t l.n))
