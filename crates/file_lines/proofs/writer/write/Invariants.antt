-- The loop's invariant: the digits of the first k bytes stand over the front of the buffer. Assumes nothing.
use Rattle.std.proofs.Common.{◌≡◌, take}
use Rattle.spec_file.specs.Text.{digits}
use Rattle.spec_file.specs.Over.{over}
use Rattle.file_lines.proofs.writer.write.Given as goal

abbrev pub invariant-loop-k : goal.invariant-loop-k
invariant-loop-k l = l.out ≡ over (digits (take l.k l.bytes)) l.initial.out
