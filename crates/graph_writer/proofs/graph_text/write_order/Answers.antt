-- `write_order` fills the frame of a location and writes its line, unless there is no write.
use Rattle.std.proofs.Common.{rules, sym, length-take-le}
use Rattle.graph_writer.proofs.NoteWriting.{unwritten, order_within, order_none, order_line}
use Rattle.graph_writer.proofs.graph_text.write_order.Goals as goal

pub returns-then-n-eq2 : goal.returns-then-n-eq2
returns-then-n-eq2 c =
    unwritten _ c.args.out.now (order_none c.args.l c.fill_order-n.result _ c.fill_order-n.ensures.count c.if-n-eq2.true)

pub slice_bounds-frame-end : goal.slice_bounds-frame-end
slice_bounds-frame-end c =
    let fill-order = c.fill_order-n in
    order_within _ _ _ _ fill-order.ensures.count fill-order.ensures.few fill-order.ensures.content (search rules)

pub slice_bounds-write-end : goal.slice_bounds-write-end
slice_bounds-write-end c =
    sym (length-take-le _ _ (order_within _ _ _ _ c.fill_order-n.ensures.count c.fill_order-n.ensures.few c.fill_order-n.ensures.content (search
    rules)))

pub returns : goal.returns
returns c =
    order_line c.args.l c.fill_order-n.result _ _ _ c.args.out.now _ _ c.fill_order-n.ensures.count c.fill_order-n.ensures.content c.if-n-eq2.false c.write.ensures.count c.write.ensures.content
