-- `put_row` stores one byte after the other. The invariant: the bytes so far are written.
use Rattle.std.proofs.Common.{◌*◌, ◌≡◌, length}
use Rattle.spec_file.specs.Frame.{pairs}
use Rattle.file_rows.specs.Bytes.{Written}
use Rattle.file_rows.proofs.row.put_row.Given as goal

abbrev pub invariant-loop-j : goal.invariant-loop-j
invariant-loop-j l = (length l.code ≡ 1536) × Written l.initial.code (l.row * 16) (pairs l.line) l.j l.code
