-- `smaller`'s invariant: what the steps from t on give completes the whole, and the table stays true.
use Rattle.std.proofs.Common.{◌^◌, ◌<◌, ◌≡◌, length}
use Rattle.states_member.proofs.Smaller.{Rest}
use Rattle.states_member.proofs.ranking.smaller.Given as goal

abbrev pub invariant-loop-t : goal.invariant-loop-t
invariant-loop-t l =
    (length l.table ≡ length l.initial.table) × (l.sum.listed < 2 ^ 64) × (l.sum.failing < 2 ^ 64)
    × Rest l.setup.program.code l.setup.program.lengths l.setup.program.class l.shape.width l.shape.slots l.x l.b l.initial.table l.table l.sum.listed l.sum.failing l.t
