-- `fill_order` goes through the notes. The invariant: the writes among the first k stand in the frame.
use Rattle.std.proofs.Common.{◌≤◌, ◌+◌, ◌*◌, ◌≡◌, length}
use Rattle.graph_writer.proofs.NoteWriting.{Filled}
use Rattle.graph_writer.proofs.graph_text.fill_order.Given as goal

abbrev pub invariant-loop-k : goal.invariant-loop-k
invariant-loop-k l = (l.k ≤ l.steps) × (l.n ≤ 2 + 2 * l.k) × (length l.frame ≡ 64) × Filled l.log l.l l.k l.initial.frame l.frame l.n
