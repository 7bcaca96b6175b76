-- Some text, and what is left behind it, are what is printed of the file. A turn that goes on puts the piece behind that text, and each turn
-- leaves less.
use Rattle.std.proofs.Common.{◌≡◌, ◌++◌, ℕ, List, length}
use Rattle.spec_calls.specs.Printed.{printed}
use Rattle.explorer_lines.specs.Pieces.{rest, Sound}
use Rattle.explorer.proofs.print.Given as goal

abbrev pub invariant-loop-output : goal.invariant-loop-output
invariant-loop-output l = Sound l.listing × (length l.out ≡ 13603) × ((t : List ℕ) × (t ++ rest l.listing ≡ printed l.file))

abbrev pub decreases-loop-output : goal.decreases-loop-output
decreases-loop-output l = length (rest l.listing)
