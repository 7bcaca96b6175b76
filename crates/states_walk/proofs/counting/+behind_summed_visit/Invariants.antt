-- `visit`, `behind` and `summed` call each other, with one step fewer left each time round. `summed`'s invariant: what the steps from t on give completes the
-- whole, and the table stays true.
use Rattle.std.proofs.Common.{◌<◌, ◌-◌, ◌+◌, ◌^◌, ◌≡◌, length}
use Rattle.states_walk.proofs.Numbered.{Rest}
use Rattle.states_walk.proofs.counting.+behind_summed_visit.Given as goal

-- three times the steps left, and which of the three calls which
abbrev pub decreases-behind : goal.decreases-behind
decreases-behind l = (24 - l.x.now.place.steps) + (24 - l.x.now.place.steps) + (24 - l.x.now.place.steps) + 2

abbrev pub decreases-summed : goal.decreases-summed
decreases-summed l = (24 - l.x.now.place.steps) + (24 - l.x.now.place.steps) + (24 - l.x.now.place.steps) + 1

abbrev pub decreases-visit : goal.decreases-visit
decreases-visit l = (24 - l.x.now.place.steps) + (24 - l.x.now.place.steps) + (24 - l.x.now.place.steps)

-- ---- summed
abbrev pub invariant-summed-loop-t : goal.invariant-summed-loop-t
invariant-summed-loop-t l =
    (length l.table ≡ length l.initial.table) × (l.sum.listed < 2 ^ 64) × (l.sum.failing < 2 ^ 64)
    × Rest l.setup.program.code l.setup.program.lengths l.setup.program.class l.shape.width l.shape.slots l.x l.initial.table l.table l.sum.listed l.sum.failing l.t
