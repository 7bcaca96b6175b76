-- `schedule_line` writes the row with 50 in place of the number of steps, and without what stands behind the steps.
use Rattle.std.proofs.Common.{arith, length, set, take, ◌+◌}
use Rattle.spec_file.proofs.Text.{length_written}
use Rattle.explorer_lines.proofs.RowText.{row_frame}
use Rattle.explorer_lines.proofs.LineLoop.{frame_wrote}
use Rattle.explorer_lines.proofs.frames.schedule_line.Goals as goal

pub returns : goal.returns
returns c =
    let a = c.args in
    let w = c.write.ensures in record { within = omega (arith, w.count, length_written (take (c.steps_of-n.result + 2) (set a.row 0 0x50)) (length a.out.now)); line = λ s f e h. frame_wrote _ _ a.out.now _ _ (row_frame s f a.row c.steps_of-n.result e h (c.steps_of-n.ensures.steps s f e h)) w.count w.content }
