-- `rows_with` and `rows_behind` call each other, with one step fewer left each time round. `rows_behind`'s invariant: all outcomes with a step before b
-- are among the rows, and the marks are true of the rows.
use Rattle.std.proofs.Common.{ℕ, ◌*◌, ◌≤◌, ◌-◌, ◌+◌, ◌≡◌, length}
use Rattle.tso_outcomes.proofs.AllRows.{Upto}
use Rattle.tso_outcomes.proofs.gathering.+rows_behind_rows_with.Given as goal

abbrev pub decreases-rows_behind : goal.decreases-rows_behind
decreases-rows_behind l = let n : ℕ = 32 - l.x.now.place.steps in n + n + 1

abbrev pub decreases-rows_with : goal.decreases-rows_with
decreases-rows_with l = let n : ℕ = 32 - l.x.now.place.steps in n + n

-- ---- rows_behind
abbrev pub invariant-rows_behind-loop-b : goal.invariant-rows_behind-loop-b
invariant-rows_behind-loop-b l =
    (length l.lent ≡ length l.initial.lent) × (9 * l.known ≤ l.frame.cut) × Upto l.setup.program.code l.setup.program.lengths l.setup.program.class l.frame l.x l.initial.lent l.lent l.known l.b
