-- `asks` looks at the record only where its number is 1.
use Rattle.std.proofs.Common.{◌∙◌, ne_eqb}
use Rattle.service_record.proofs.Opened.{asks_open, asks_not}
use Rattle.service_record.proofs.reads.asks.Goals as goal

pub returns-then-c-eq1 : goal.returns-then-c-eq1
returns-then-c-eq1 c = c.is_open.ensures ∙ asks_open c.args.c.now c.if-c-eq1.true

pub returns-else-c-eq1 : goal.returns-else-c-eq1
returns-else-c-eq1 c = ne_eqb _ _ c.if-c-eq1.false ∙ asks_not c.args.c.now c.if-c-eq1.false
