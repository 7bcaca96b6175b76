-- `write_orders` goes through the locations. The invariant: the lines of the first l stand in front.
use Rattle.std.proofs.Common.{◌≤◌, ◌≡◌, length}
use Rattle.graph_writer.specs.NoteText.{order_frames_in, notes_at, Wrote}
use Rattle.graph_writer.proofs.graph_text.write_orders.Given as goal

abbrev pub invariant-loop-l : goal.invariant-loop-l
invariant-loop-l l = (l.l ≤ 8) × (l.at ≤ length l.out) × (length l.out ≡ length l.initial.out) × Wrote (order_frames_in l.l (notes_at l.log l.steps)) l.initial.out l.out l.at
