-- `count` tries one permutation of the table after the other. The invariant: those counted and those among the rest are all.
use Rattle.std.proofs.Common.{◌+◌, ◌≤◌, ◌≡◌, length, drop}
use Rattle.spec_schedules.specs.Lists.{filter}
use Rattle.spec_schedules.specs.Permutations.{permutations}
use Rattle.class_size.specs.Moves.{goes_by}
use Rattle.class_size.proofs.counting.count.Given as goal

abbrev pub invariant-loop-row : goal.invariant-loop-row
invariant-loop-row l = (l.n ≤ l.row-index) × (l.n + length (filter (goes_by l.may) (drop l.row-index permutations)) ≡ length (filter (goes_by l.may) permutations))
