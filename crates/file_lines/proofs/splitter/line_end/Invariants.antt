-- The loop's invariant: the line that starts at `from` ends where the one does that starts at `i`. Assumes nothing.
use Rattle.std.proofs.Common.{◌+◌, ◌≤◌, ◌≡◌, length, drop, max}
use Rattle.spec_file.specs.Split.{line_length}
use Rattle.file_lines.proofs.splitter.line_end.Given as goal

abbrev pub invariant-loop-i : goal.invariant-loop-i
invariant-loop-i l = (l.i ≤ max (length l.text) l.from) × (l.from + line_length (drop l.from l.text) ≡ l.i + line_length (drop l.i l.text))
