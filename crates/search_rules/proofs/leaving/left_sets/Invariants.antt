-- `left_sets` goes through the rows from the last one on. The invariant: the rows behind hold their sets.
use Rattle.std.proofs.Common.{◌≤◌, ◌≡◌, length}
use Rattle.search_rules.proofs.WhatIsLeft.{From}
use Rattle.search_rules.proofs.leaving.left_sets.Given as goal

abbrev pub invariant-loop-row : goal.invariant-loop-row
invariant-loop-row l = (l.row ≤ 96) × (length l.left ≡ 192) × From l.program.code l.program.lengths l.row l.left
