-- `slot_of` is the library's search over the marks.
use Rattle.std.proofs.Common.{ℕ, ◌≡◌, ap, ◌∙◌, arith, rules, tests, length, get_or}
use Rattle.std.proofs.lemmas.Iterator.{YieldsList-from_slice}
use Rattle.std.proofs.lemmas.Iterator.Search.{position_from_yields_List}
use Rattle.std.proofs.lemmas.Iterator.Adapters.{position_from-zero}
use Rattle.file_decoder.specs.Compiled.{program_of}
use Rattle.spec_schedules.specs.Lists.{range, find}
use Rattle.spec_service.specs.Record.{no_mark}
use Rattle.spec_service.specs.Marks.{bears, slot_of}
use Rattle.service_marks.specs.Numbers.{slot_number}
use Rattle.service_marks.proofs.Slotting.{first_passing}
use Rattle.service_marks.proofs.slots.slot_of.Goals as goal

pub returns : goal.returns
unfolding slot_of
returns c =
    let x = c.args in
    let ms = x.marks.now in
    let p = bears (program_of x.p.now) x.name.now in
    let g = λ (i : ℕ). p (get_or ms i no_mark) in
    let l : length ms ≡ 8 = search rules in
    position_from_yields_List p _ _ c.position.result c.position.ensures.ran (YieldsList-from_slice ms cc) (λ m b q k. search (rules, tests))
    ∙ position_from-zero p ms ∙ first_passing p g ms no_mark 0 (λ k q. ap g (omega arith)) ∙ ap (λ (n : ℕ). slot_number (find g (range 0 n))) l
