use Rattle.std.proofs.Common.{rules, ◌≡◌, refl, arith, length}
use mathlib.Core.List.{flat_map}
use borrow.Rule.Slice.PartMut.{mid_len}
use Rattle.spec_schedules.specs.Lists.{range}
use Rattle.graph_writer.specs.NoteText.{order_frames_in, notes_at}
use Rattle.graph_writer.proofs.WrittenLines.{wrote_within, wrote_more}
use Rattle.graph_writer.proofs.NotesHeld.{orders_next}
use Rattle.graph_writer.proofs.NoteWriting.{unwritten}
use Rattle.graph_writer.proofs.graph_text.write_orders.Goals as goal

pub loop-l-init : goal.loop-l-init
unfolding order_frames_in flat_map range
loop-l-init c = (search rules, search rules, search rules, unwritten _ c.args.out.now refl)

pub overflow_add-at : goal.overflow_add-at
overflow_add-at c =
    let h = (wrote_within _ _ _ _ c.write_order-at.ensures).0 in let m = mid_len c.loop-l.at (length c.loop-l.out) c.loop-l.out (omega arith) in omega arith

pub loop-l-preserved : goal.loop-l-preserved
loop-l-preserved c =
    let w = wrote_more _ _ _ _ c.loop-l.out _ c.loop-l.at c.write_order-at.result (orders_next (notes_at c.args.log.now
    c.args.steps) c.loop-l.l) c.loop-l.invariant.3 c.write_order-at.ensures in let h = wrote_within _ _ _ _ w in (
      search rules,
      omega arith,
      h.1,
      w,
    )

pub returns : goal.returns
returns c = let e : c.loop-l.l ≡ 8 = omega arith in rw (← e) c.loop-l.invariant.3
