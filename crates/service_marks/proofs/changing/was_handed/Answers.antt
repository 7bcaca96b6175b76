-- `was_handed` looks at the place only where its number is 1.
use Rattle.std.proofs.Common.{◌∙◌, ne_eqb}
use Rattle.file_decoder.specs.Compiled.{program_of}
use Rattle.service_marks.proofs.Changed.{handed_place, handed_not}
use Rattle.service_marks.proofs.changing.was_handed.Goals as goal

pub returns-then-c-eq1 : goal.returns-then-c-eq1
returns-then-c-eq1 c = let x = c.args in c.is_place.ensures ∙ handed_place (program_of x.p.now) x.c.now c.if-c-eq1.true

pub returns-else-c-eq1 : goal.returns-else-c-eq1
returns-else-c-eq1 c = let x = c.args in ne_eqb _ _ c.if-c-eq1.false ∙ handed_not (program_of x.p.now) x.c.now c.if-c-eq1.false
