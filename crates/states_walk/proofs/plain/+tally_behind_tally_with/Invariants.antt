-- `tally_with` and `tally_behind` call each other, with one step fewer left each time round. `tally_behind`'s invariant: what the threads from t on give
-- completes the whole.
use Rattle.std.proofs.Common.{◌<◌, ◌-◌, ◌+◌, ◌^◌}
use Rattle.states_walk.proofs.Turns.{Left}
use Rattle.states_walk.proofs.plain.+tally_behind_tally_with.Given as goal

-- twice the steps left, and which of the two calls which
abbrev pub decreases-tally_behind : goal.decreases-tally_behind
decreases-tally_behind l = (24 - l.x.now.steps) + (24 - l.x.now.steps) + 1

abbrev pub decreases-tally_with : goal.decreases-tally_with
decreases-tally_with l = (24 - l.x.now.steps) + (24 - l.x.now.steps)

abbrev pub invariant-tally_behind-loop-t : goal.invariant-tally_behind-loop-t
invariant-tally_behind-loop-t l =
    (l.sum.listed < 2 ^ 64) × (l.sum.failing < 2 ^ 64) × Left l.program.code l.program.lengths l.program.class l.x l.sum.listed l.sum.failing l.t
