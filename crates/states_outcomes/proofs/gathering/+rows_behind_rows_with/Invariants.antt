-- `rows_with` and `rows_behind` call each other, with one step fewer left each time round. `rows_behind`'s invariant: all outcomes with a step before t
-- are among the rows, and the marks are true of the rows.
use Rattle.std.proofs.Common.{◌*◌, ◌≤◌, ◌-◌, ◌+◌, ◌≡◌, length}
use Rattle.states_outcomes.proofs.AllRows.{Upto}
use Rattle.states_outcomes.proofs.gathering.+rows_behind_rows_with.Given as goal

abbrev pub decreases-rows_behind : goal.decreases-rows_behind
decreases-rows_behind l = (24 - l.x.now.place.steps) + (24 - l.x.now.place.steps) + 1

abbrev pub decreases-rows_with : goal.decreases-rows_with
decreases-rows_with l = (24 - l.x.now.place.steps) + (24 - l.x.now.place.steps)

-- ---- rows_behind
abbrev pub invariant-rows_behind-loop-t : goal.invariant-rows_behind-loop-t
invariant-rows_behind-loop-t l =
    (length l.lent ≡ length l.initial.lent) × (9 * l.known ≤ l.frame.cut) × Upto l.setup.program.code l.setup.program.lengths l.setup.program.class l.frame l.x l.initial.lent l.lent l.known l.t
