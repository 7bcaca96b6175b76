-- `same_reads` goes through the reads of both threads at once. The invariant: what is left to compare, from notes a and b on, is the same
-- exactly if the whole is.
use Rattle.std.proofs.Common.{ℕ, ◌-◌, ◌<◌, ◌≡◌, Option, Some, None, IfSome}
use Rattle.spec_sc.specs.Same.{same_read}
use Rattle.spec_file.specs.Lists.{same_list}
use Rattle.graph_writer.specs.NoteText.{reads_in, notes_at}
use Rattle.class_size.specs.Moves.{reads_on}
use Rattle.class_size.proofs.reads.same_reads.Given as goal

-- the notes from a place on
abbrev pub left : ℕ → Option ℕ → ℕ
left steps None = 0
left steps (Some k) = steps - k

abbrev pub invariant-loop-a : goal.invariant-loop-a
invariant-loop-a l =
    IfSome l.a (λ k. k < l.steps) × IfSome l.b (λ k. k < l.steps)
    × (same_list same_read (reads_on l.log l.steps l.t l.a) (reads_on l.log l.steps l.u l.b) ≡ same_list same_read (reads_in l.t (notes_at l.log l.steps)) (reads_in l.u (notes_at l.log l.steps)))

abbrev pub decreases-loop-a : goal.decreases-loop-a
decreases-loop-a l = left l.steps l.a
