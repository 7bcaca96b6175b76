-- A store has its location in the second byte, any other access in the third.
use Rattle.tso_machine.proofs.AccessRows.{store_place, other_place}
use Rattle.tso_machine.proofs.rows_of.location_at.Goals as goal

pub returns-then-code-at-eq16 : goal.returns-then-code-at-eq16
returns-then-code-at-eq16 c = store_place c.args.code.now c.args.row c.requires c.if-code-at-eq16.true

pub returns-else-code-at-eq16 : goal.returns-else-code-at-eq16
returns-else-code-at-eq16 c = other_place c.args.code.now c.args.row c.requires c.if-code-at-eq16.false
