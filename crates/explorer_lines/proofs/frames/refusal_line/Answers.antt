-- `refusal_line` writes the frame of a refusal.
use Rattle.std.proofs.Common.{rules}
use Rattle.spec_calls.specs.Printed.{bytes_of, printed_frames}
use Rattle.explorer_lines.proofs.LineLoop.{frame_wrote}
use Rattle.explorer_lines.proofs.frames.refusal_line.Goals as goal

pub returns : goal.returns
unfolding printed_frames bytes_of
returns c =
    let a = c.args in
    let w = c.write.ensures in
    frame_wrote _ _ a.out.now _ _ (rw (c.copy_from_slice.ensures.after, c.to_be_bytes.ensures) (search rules)) w.count w.content
