-- `quotient_of` counts the permitted permutations and those that leave the graph the same; the identity is one of both.
use Rattle.std.proofs.Common.{arith}
use Rattle.graph_writer.specs.NoteText.{notes_at}
use Rattle.search_place.specs.ClassGroups.{groups_of}
use Rattle.class_size.proofs.Divided.{some_leave}
use Rattle.class_size.proofs.ClassCalled.{leave_counted, counts_divided}
use Rattle.class_size.proofs.class_call.quotient_of.Goals as goal

pub nonzero_div-result : goal.nonzero_div-result
nonzero_div-result c =
    let args = c.args in
    let may = c.permitted_moves-may in
    let left = c.leaving_moves-left in
    let gs = groups_of args.class args.groups in
    let ns = notes_at args.log.now args.steps in
    omega (arith, c.count-2.ensures.1, leave_counted gs ns may.result left.result may.ensures left.ensures, some_leave gs ns)

pub returns : goal.returns
returns c =
    let args = c.args in
    let may = c.permitted_moves-may in
    let left = c.leaving_moves-left in
    counts_divided (groups_of args.class args.groups) (notes_at args.log.now args.steps) may.result left.result may.ensures left.ensures
    c.count.result c.count-2.result c.count.ensures.1 c.count-2.ensures.1
