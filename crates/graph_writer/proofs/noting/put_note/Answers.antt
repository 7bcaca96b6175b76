-- The note's bytes are copied where there is room.
use Rattle.std.proofs.Common.{rules, arith, sym}
use Rattle.graph_writer.proofs.HeldNotes.{note_copied, put_over}
use Rattle.graph_writer.proofs.noting.put_note.Goals as goal

pub returns-then-k-lt-STEPS : goal.returns-then-k-lt-STEPS
returns-then-k-lt-STEPS c = note_copied _ _ _ _ _ c.if-k-lt-STEPS.true (search rules) (search rules) (omega arith) c.copy_from_slice.ensures.after

pub returns-else-k-lt-STEPS : goal.returns-else-k-lt-STEPS
returns-else-k-lt-STEPS c = sym (put_over _ _ _ c.if-k-lt-STEPS.false)
