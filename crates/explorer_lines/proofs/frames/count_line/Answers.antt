-- `count_line` writes the frame of the two counts.
use Rattle.std.proofs.Common.{rules}
use Rattle.spec_calls.specs.Printed.{bytes_of, count_frame}
use Rattle.explorer_lines.proofs.LineLoop.{frame_wrote}
use Rattle.explorer_lines.proofs.frames.count_line.Goals as goal

pub returns : goal.returns
unfolding count_frame bytes_of
returns c =
    let a = c.args in
    let w = c.write.ensures in
    frame_wrote _ _ a.out.now _ _ (rw (c.copy_from_slice.ensures.after, c.copy_from_slice-2.ensures.after, c.to_be_bytes.ensures, c.to_be_bytes-2.ensures) (search rules)) w.count w.content
