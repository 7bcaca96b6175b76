-- `first_with`, `first_behind` and `first_among` call each other, with one step fewer left each time round. `first_among`'s invariant: none with a step before
-- t is the first, and the marks stay true.
use Rattle.std.proofs.Common.{◌-◌, ◌+◌, ◌≡◌, length}
use Rattle.states_walk.proofs.FirstFound.{Left}
use Rattle.states_walk.proofs.seeking.+first_among_first_behind_first_with.Given as goal

abbrev pub decreases-first_among : goal.decreases-first_among
decreases-first_among l = (24 - l.x.now.place.steps) + (24 - l.x.now.place.steps) + (24 - l.x.now.place.steps) + 1

abbrev pub decreases-first_behind : goal.decreases-first_behind
decreases-first_behind l = (24 - l.x.now.place.steps) + (24 - l.x.now.place.steps) + (24 - l.x.now.place.steps) + 2

abbrev pub decreases-first_with : goal.decreases-first_with
decreases-first_with l = (24 - l.x.now.place.steps) + (24 - l.x.now.place.steps) + (24 - l.x.now.place.steps)

-- ---- first_among
abbrev pub invariant-first_among-loop-t : goal.invariant-first_among-loop-t
invariant-first_among-loop-t l =
    (length l.table ≡ length l.initial.table) × Left l.setup.program.code l.setup.program.lengths l.setup.program.class l.shape.width l.shape.slots l.x l.initial.table l.table l.t
