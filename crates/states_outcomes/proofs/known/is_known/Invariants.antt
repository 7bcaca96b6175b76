-- `is_known` asks row by row. The invariant: none before k is this row.
use Rattle.std.proofs.Common.{◌≤◌, ◌≡◌, false}
use Rattle.states_outcomes.specs.Rows.{known_row}
use Rattle.states_outcomes.proofs.known.is_known.Given as goal

abbrev pub invariant-loop-k : goal.invariant-loop-k
invariant-loop-k l = (l.k ≤ l.n) × (known_row l.rows l.k l.row ≡ false)
