-- `covers_with` compares under sequential consistency twice.
use Rattle.std.proofs.Common.{arith, length}
use Rattle.covers.proofs.Comparisons.{answer, comparison_right}
use Rattle.covers.proofs.covers_call.covers_with.Goals as goal

pub compared-requires : goal.compared-requires
compared-requires c = omega arith

pub returns : goal.returns
unfolding answer
returns c =
    let a = c.args in
    let r = c.compared.ensures in
    (answer a.first.now a.second.now (length a.out.now), comparison_right a.first.now a.second.now (length a.out.now), r.answer, r.output, r.scratch)
