-- `write_graph` writes the lines of the reads, then those of the locations behind them.
use Rattle.std.proofs.Common.{arith, length}
use borrow.Rule.Slice.PartMut.{mid_len}
use Rattle.graph_writer.proofs.WrittenLines.{wrote_within}
use Rattle.graph_writer.proofs.GraphWritten.{notes_written}
use Rattle.graph_writer.proofs.graph_text.write_graph.Goals as goal

pub slice_bounds-write_orders-count : goal.slice_bounds-write_orders-count
slice_bounds-write_orders-count c = let h = wrote_within _ _ _ _ c.write_reads-at.ensures in omega arith

pub slice_bounds-write_orders-start : goal.slice_bounds-write_orders-start
slice_bounds-write_orders-start c = let h = wrote_within _ _ _ _ c.write_reads-at.ensures in omega arith

pub overflow_add-result : goal.overflow_add-result
overflow_add-result c =
    let h = wrote_within _ _ _ _ c.write_reads-at.ensures in let m = mid_len c.write_reads-at.result (length c.write_reads-at.new.out) c.write_reads-at.new.out (omega arith) in let k = wrote_within _ _ _ _ c.write_orders.ensures in omega arith

pub returns : goal.returns
returns c =
    notes_written c.args.log.now c.args.out.now _ _ c.args.steps _ _ c.requires.0 c.write_reads-at.ensures c.write_orders.ensures
