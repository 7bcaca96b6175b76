use Rattle.std.proofs.Common.{rules, ◌≡◌, refl, arith, length}
use mathlib.Core.List.{flat_map}
use borrow.Rule.Slice.PartMut.{mid_len}
use Rattle.spec_schedules.specs.Lists.{range}
use Rattle.graph_writer.specs.NoteText.{read_frames_in, notes_at}
use Rattle.graph_writer.proofs.WrittenLines.{wrote_within, wrote_more}
use Rattle.graph_writer.proofs.NotesHeld.{threads_next}
use Rattle.graph_writer.proofs.NoteWriting.{unwritten}
use Rattle.graph_writer.proofs.graph_text.write_reads.Goals as goal

pub loop-t-init : goal.loop-t-init
unfolding read_frames_in flat_map range
loop-t-init c = (search rules, search rules, search rules, unwritten _ c.args.out.now refl)

pub overflow_add-at : goal.overflow_add-at
overflow_add-at c =
    let h = (wrote_within _ _ _ _ c.write_thread-at.ensures).0 in let m = mid_len c.loop-t.at (length c.loop-t.out) c.loop-t.out (omega arith) in omega arith

pub loop-t-preserved : goal.loop-t-preserved
loop-t-preserved c =
    let w = wrote_more _ _ _ _ c.loop-t.out _ c.loop-t.at c.write_thread-at.result (threads_next (notes_at c.args.log.now c.args.steps) c.loop-t.t) c.loop-t.invariant.3 c.write_thread-at.ensures in let h = wrote_within _ _ _ _ w in (
      search
          rules,
      omega arith,
      h.1,
      w,
    )

pub returns : goal.returns
returns c = let e : c.loop-t.t ≡ 6 = omega arith in rw (← e) c.loop-t.invariant.3
