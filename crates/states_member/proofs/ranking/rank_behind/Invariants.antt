-- `rank_behind`'s invariant: those behind the steps taken that are smaller than the rest of the schedule complete the whole, and the table stays true.
use Rattle.std.proofs.Common.{◌^◌, ◌<◌, ◌≡◌, length}
use Rattle.states_member.proofs.Ranks.{Along}
use Rattle.states_member.proofs.ranking.rank_behind.Given as goal

abbrev pub invariant-loop-b : goal.invariant-loop-b
invariant-loop-b l =
    (length l.table ≡ length l.initial.table) × (l.sum.listed < 2 ^ 64)
    × Along l.setup.program.code l.setup.program.lengths l.setup.program.class l.shape.width l.shape.slots l.initial.y l.initial.table l.schedule l.y l.table l.sum.listed l.b-index
