use Rattle.std.proofs.Common.{ap, sym, ◌≡◌, ◌∙◌, arith}
use Rattle.class_size.specs.Moves.{goes_by}
use Rattle.class_size.proofs.Goes.{row_below, count_yes, count_no, none_left}
use Rattle.class_size.proofs.counting.count.Goals.{else-goes, then-goes}
use Rattle.class_size.proofs.counting.count.Goals as goal

pub goes-requires : goal.goes-requires
goes-requires c = λ t h. rw c.unpacked.ensures (row_below c.args.table.now c.requires c.loop-row.row-index (omega arith) t h)

pub loop-row-preserved : goal.loop-row-preserved
loop-row-preserved c =
    let loop = c.loop-row in
    let table = c.args.table.now in
    let row = ap (goes_by c.args.may) (sym c.unpacked.ensures) in
    elim c.if-goes.branch [
      | then-goes w ↦ let e = row ∙ sym c.goes.ensures ∙ w.if-goes.true in (omega arith, rw w.n-is (count_yes table c.requires (goes_by c.args.may) loop.row-index loop.n (omega arith) loop.invariant.1 e))
      | else-goes w ↦ let e = row ∙ sym c.goes.ensures ∙ w.if-goes.false in (omega arith, rw w.n-is (count_no table c.requires (goes_by c.args.may) loop.row-index loop.n (omega arith) loop.invariant.1 e))
    ]

pub returns : goal.returns
returns c =
    let loop = c.loop-row in
    let e : loop.row-index ≡ 720 = omega arith in
    (omega arith, none_left (goes_by c.args.may) loop.n (rw (sym e) loop.invariant.1))
