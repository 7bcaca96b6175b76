-- `bears` looks at the name only where the mark has a place.
use Rattle.std.proofs.Common.{sym, ◌∙◌}
use Rattle.file_decoder.specs.Compiled.{program_of}
use Rattle.service_marks.proofs.Named.{bears_not, bears_same}
use Rattle.service_marks.proofs.bearing.bears.Goals as goal

pub returns-then-has_place : goal.returns-then-has_place
returns-then-has_place c =
    let x = c.args in
    c.eq.ensures ∙ bears_same (program_of x.p.now) x.m.now x.name.now _ (sym c.has_place.ensures ∙ c.if-has_place.true) c.from.ensures

pub returns-else-has_place : goal.returns-else-has_place
returns-else-has_place c =
    let x = c.args in
    c.if-has_place.false ∙ bears_not (program_of x.p.now) x.m.now x.name.now (sym c.has_place.ensures ∙ c.if-has_place.false)
