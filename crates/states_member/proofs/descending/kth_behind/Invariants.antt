-- `kth_behind`'s invariant: the member that is looked for is the member number i behind the steps taken, and the table stays true.
use Rattle.std.proofs.Common.{◌-◌, ◌≡◌, length}
use Rattle.states_member.proofs.Descent.{Descends}
use Rattle.states_member.proofs.descending.kth_behind.Given as goal

abbrev pub invariant-loop-y : goal.invariant-loop-y
invariant-loop-y l =
    (length l.table ≡ length l.initial.table) × Descends l.setup.program.code l.setup.program.lengths l.setup.program.class l.shape.width l.shape.slots l.initial.y l.initial.table l.k l.y l.table l.i

abbrev pub decreases-loop-y : goal.decreases-loop-y
decreases-loop-y l = 24 - l.y.place.steps
