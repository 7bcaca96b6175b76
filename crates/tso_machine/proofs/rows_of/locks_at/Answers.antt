-- By the first byte: below the locked accesses, or from them on.
use Rattle.std.proofs.Common.{◌∙◌}
use Rattle.std.proofs.lemmas.Bool.{lt-leb}
use Rattle.tso_machine.proofs.AccessRows.{below_locked, from_locked}
use Rattle.tso_machine.proofs.rows_of.locks_at.Goals as goal

pub returns-else-b-ge18 : goal.returns-else-b-ge18
returns-else-b-ge18 c = lt-leb _ _ c.if-b-ge18.false ∙ below_locked c.args.code.now c.args.row c.requires c.if-b-ge18.false

pub returns-then-b-ge18 : goal.returns-then-b-ge18
returns-then-b-ge18 c = from_locked c.args.code.now c.args.row c.requires c.if-b-ge18.true
