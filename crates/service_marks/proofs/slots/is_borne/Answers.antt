-- `is_borne` is the library's search over the marks.
use Rattle.std.proofs.Common.{◌∙◌, rules, tests}
use Rattle.std.proofs.lemmas.Iterator.{YieldsList-from_slice}
use Rattle.std.proofs.lemmas.Iterator.Search.{any_from_yields_List}
use Rattle.file_decoder.specs.Compiled.{program_of}
use Rattle.spec_service.specs.Marks.{bears}
use Rattle.service_marks.proofs.Slotting.{some_passes}
use Rattle.service_marks.proofs.slots.is_borne.Goals as goal

pub returns : goal.returns
returns c =
    let x = c.args in
    let p = bears (program_of x.p.now) x.name.now in
    any_from_yields_List p _ _ c.any.result c.any.ensures.ran (YieldsList-from_slice x.marks.now cc) (λ m b q k. search (rules, tests))
    ∙ some_passes p x.marks.now
