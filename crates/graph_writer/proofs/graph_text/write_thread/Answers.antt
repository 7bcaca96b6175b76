use Rattle.std.proofs.Common.{rules, ◌≡◌, refl, arith, length}
use mathlib.Core.List.{flat_map}
use borrow.Rule.Slice.PartMut.{mid_len}
use Rattle.spec_schedules.specs.Lists.{range}
use Rattle.graph_writer.specs.NoteText.{reads_in, thread_frames, notes_at}
use Rattle.graph_writer.proofs.WrittenLines.{wrote_within, wrote_more}
use Rattle.graph_writer.proofs.NotesHeld.{thread_next}
use Rattle.graph_writer.proofs.NoteWriting.{unwritten}
use Rattle.graph_writer.proofs.graph_text.write_thread.Goals as goal

pub loop-k-init : goal.loop-k-init
unfolding thread_frames reads_in notes_at flat_map range
loop-k-init c = (search rules, search rules, search rules, unwritten _ c.args.out.now refl)

pub overflow_add-at : goal.overflow_add-at
overflow_add-at c =
    let h = (wrote_within _ _ _ _ c.write_read-at.ensures).0 in let m = mid_len c.loop-k.at (length c.loop-k.out) c.loop-k.out (omega arith) in omega arith

pub loop-k-preserved : goal.loop-k-preserved
loop-k-preserved c =
    let w = wrote_more _ _ _ _ c.loop-k.out _ c.loop-k.at c.write_read-at.result (thread_next c.args.log.now c.args.t c.loop-k.k) c.loop-k.invariant.3 c.write_read-at.ensures in let h = wrote_within _ _ _ _ w in (
      search rules,
      omega arith,
      h.1,
      w,
    )

pub returns : goal.returns
returns c = let e : c.loop-k.k ≡ c.args.steps = omega arith in rw (← e) c.loop-k.invariant.3
