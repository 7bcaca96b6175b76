-- `writes_to` tests the note's location, then whether it wrote.
use Rattle.std.proofs.Common.{eq-eqb, ne_eqb}
use Rattle.graph_writer.specs.NoteText.{note_at}
use Rattle.graph_writer.proofs.graph_text.writes_to.Goals as goal

pub returns-then-log-row : goal.returns-then-log-row
unfolding note_at
returns-then-log-row c = rw (eq-eqb _ _ c.if-log-row.true)

pub returns-else-log-row : goal.returns-else-log-row
unfolding note_at
returns-else-log-row c = rw (ne_eqb _ _ c.if-log-row.false)
