-- `first_free` is the library's search over the slots.
use Rattle.std.proofs.Common.{rules, tests, refl}
use Rattle.std.proofs.lemmas.Iterator.{YieldsList-from_range}
use Rattle.std.proofs.lemmas.Iterator.Search.{find_from_yields_List}
use Rattle.file_decoder.specs.Compiled.{program_of}
use Rattle.spec_service.specs.Marks.{is_free}
use Rattle.service_marks.proofs.Slotting.{first_found}
use Rattle.service_marks.proofs.slots.first_free.Goals as goal

pub returns : goal.returns
returns c =
    let x = c.args in
    let p = is_free (program_of x.p.now) x.marks.now in
    first_found p 0 8 c.find.result (find_from_yields_List p _ _ c.find.result c.find.ensures.ran (YieldsList-from_range 0 8 8 refl refl) (λ m b q k. search (rules, tests)))
