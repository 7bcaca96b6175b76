-- `live_masks` goes through the rows from the last one on. The invariant: the rows behind hold their sets.
use Rattle.std.proofs.Common.{◌≡◌, length}
use Rattle.states_live.proofs.LiveRows.{From}
use Rattle.states_live.proofs.living.live_masks.Given as goal

abbrev pub invariant-loop-row : goal.invariant-loop-row
invariant-loop-row l = (length l.masks ≡ 96) × From l.program.code l.program.lengths l.row l.masks
