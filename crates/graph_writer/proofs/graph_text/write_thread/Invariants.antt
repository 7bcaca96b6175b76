-- `write_thread` goes through the notes. The invariant: the lines of the reads among the first k stand in front.
use Rattle.std.proofs.Common.{◌≤◌, ◌≡◌, length}
use Rattle.graph_writer.specs.NoteText.{reads_in, thread_frames, notes_at, Wrote}
use Rattle.graph_writer.proofs.graph_text.write_thread.Given as goal

abbrev pub invariant-loop-k : goal.invariant-loop-k
invariant-loop-k l = (l.k ≤ l.steps) × (l.at ≤ length l.out) × (length l.out ≡ length l.initial.out) × Wrote (thread_frames l.t (reads_in l.t (notes_at l.log l.k))) l.initial.out l.out l.at
