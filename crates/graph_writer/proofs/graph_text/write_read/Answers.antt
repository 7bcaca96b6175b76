-- `write_read` tests the note's thread and its kind, then writes one line.
use Rattle.graph_writer.proofs.NoteWriting.{unwritten, other_thread, no_read, read_line}
use Rattle.graph_writer.proofs.graph_text.write_read.Goals as goal
use Rattle.graph_writer.proofs.graph_text.write_read.Goals.{then-log-row-via-then-log-row, then-log-row-via-else-log-row+then-log-row-ne1}

pub returns-then-log-row : goal.returns-then-log-row
returns-then-log-row c =
    let args = c.args in
    elim c.then-log-row.branch [
      | then-log-row-via-then-log-row w ↦ unwritten _ args.out.now (other_thread args.log.now args.k args.t w.if-log-row.true)
      | then-log-row-via-else-log-row+then-log-row-ne1 w ↦ unwritten _ args.out.now (no_read args.log.now args.k args.t w.if-log-row.false w.if-log-row-ne1.true)
    ]

pub returns : goal.returns
returns c =
    read_line c.args.log.now c.args.k c.args.t c.args.out.now _ _ c.if-log-row.false c.if-log-row-ne1.false c.write.ensures.count c.write.ensures.content
