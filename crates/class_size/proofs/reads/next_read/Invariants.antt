-- `next_read` passes notes that state no read of the thread. The invariant: what is read from `from` on is read from k on.
use Rattle.std.proofs.Common.{◌≡◌}
use Rattle.graph_writer.specs.NoteText.{reads_in}
use Rattle.class_size.specs.Moves.{notes_from}
use Rattle.class_size.proofs.reads.next_read.Given as goal

abbrev pub invariant-loop-k : goal.invariant-loop-k
invariant-loop-k l = reads_in l.t (notes_from l.log l.from l.steps) ≡ reads_in l.t (notes_from l.log l.k l.steps)
