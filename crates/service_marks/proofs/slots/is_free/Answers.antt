-- `is_free` looks for an earlier one of its name only where the mark has a place.
use Rattle.std.proofs.Common.{not, ap, sym, ◌∙◌, arith, get_or}
use Rattle.file_decoder.specs.Compiled.{program_of}
use Rattle.spec_service.specs.Record.{no_mark}
use Rattle.service_marks.proofs.Slotting.{blank, get_d_either, free_itself, free_later}
use Rattle.service_marks.proofs.slots.is_free.Goals as goal

pub returns-then-not-has_place : goal.returns-then-not-has_place
returns-then-not-has_place c =
    let x = c.args in
    let ms = x.marks.now in
    let is = get_d_either ms x.i blank no_mark (omega (arith, c.told-marks, c.requires.1)) in
    ap not c.if-not-has_place.true ∙ free_itself (program_of x.p.now) ms x.i (get_or ms x.i blank) is (sym c.has_place.ensures ∙ c.if-not-has_place.true)

pub returns-else-not-has_place : goal.returns-else-not-has_place
returns-else-not-has_place c =
    let x = c.args in
    let ms = x.marks.now in
    let is = get_d_either ms x.i blank no_mark (omega (arith, c.told-marks, c.requires.1)) in
    c.is_borne.ensures
    ∙ free_later (program_of x.p.now) ms x.i (get_or ms x.i blank) is _ (sym c.has_place.ensures ∙ c.if-not-has_place.false) c.from.ensures
