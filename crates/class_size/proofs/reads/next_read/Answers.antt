use Rattle.std.proofs.Common.{sym, ◌∙◌}
use Rattle.class_size.proofs.NotesFrom.{read_here, read_elsewhere, reads_last}
use Rattle.class_size.proofs.reads.next_read.Goals as goal

pub returns-then-says-clause-reads : goal.returns-then-says-clause-reads
returns-then-says-clause-reads c =
    let args = c.args in
    c.loop-k.invariant ∙ read_here args.log.now args.steps args.t c.loop-k.k c.loop-k-test.true (sym c.says.ensures ∙ c.if-says.true)

pub loop-k-preserved : goal.loop-k-preserved
loop-k-preserved c =
    let args = c.args in
    c.loop-k.invariant ∙ read_elsewhere args.log.now args.steps args.t c.loop-k.k c.loop-k-test.true (sym c.says.ensures ∙ c.if-says.false)

pub returns-clause-reads : goal.returns-clause-reads
returns-clause-reads c =
    let args = c.args in
    c.loop-k.invariant ∙ reads_last args.log.now args.steps args.t c.loop-k.k c.loop-k-test.false
