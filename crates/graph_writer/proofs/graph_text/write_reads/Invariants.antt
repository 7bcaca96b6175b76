-- `write_reads` goes through the threads. The invariant: the lines of the first t stand in front.
use Rattle.std.proofs.Common.{◌≤◌, ◌≡◌, length}
use Rattle.graph_writer.specs.NoteText.{read_frames_in, notes_at, Wrote}
use Rattle.graph_writer.proofs.graph_text.write_reads.Given as goal

abbrev pub invariant-loop-t : goal.invariant-loop-t
invariant-loop-t l = (l.t ≤ 6) × (l.at ≤ length l.out) × (length l.out ≡ length l.initial.out) × Wrote (read_frames_in l.t (notes_at l.log l.steps)) l.initial.out l.out l.at
