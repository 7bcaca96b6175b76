-- `chosen`'s invariant: the member number i of all is the member that is looked for with t or a later step, and the table stays true.
use Rattle.std.proofs.Common.{◌≡◌, length}
use Rattle.states_member.proofs.Choices.{Seeks}
use Rattle.states_member.proofs.choosing.chosen.Given as goal

abbrev pub invariant-loop-t : goal.invariant-loop-t
invariant-loop-t l =
    (length l.table ≡ length l.initial.table) × Seeks l.setup.program.code l.setup.program.lengths l.setup.program.class l.shape.width l.shape.slots l.x l.initial.table l.fn.i l.table l.i l.t
