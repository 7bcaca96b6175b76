-- `has_place` looks at the name's length and the place's number, then at the place.
use Rattle.std.proofs.Common.{◌≡◌, not, ◌&&◌, eqb, ◌∙◌, arith}
use Rattle.std.proofs.lemmas.Bool.Decides.{nat_tests}
use Rattle.file_decoder.specs.Compiled.{program_of}
use Rattle.spec_service.specs.Marks.{name_fits}
use Rattle.service_marks.proofs.Named.{place_fit, place_unfit}
use Rattle.service_marks.proofs.bearing.has_place.Goals.{then-name_fits, else-name_fits}
use Rattle.service_marks.proofs.bearing.has_place.Goals as goal

pub returns-then-m-ne3 : goal.returns-then-m-ne3
returns-then-m-ne3 c =
    let m = c.args.m.now in
    let v : c.if-name_fits.value ≡ (name_fits m.length && not (eqb m.place 3)) =
    elim c.if-name_fits.branch [ then-name_fits w ↦ grind (arith, nat_tests, w.value-is, w.if-name_fits, c.name_fits.ensures, c.from.ensures) | else-name_fits w ↦ grind (arith, nat_tests, w.value-is, w.if-name_fits, c.name_fits.ensures, c.from.ensures) ] in
    c.is_place.ensures ∙ place_fit (program_of c.args.p.now) m _ v c.if-m-ne3.true

pub returns-else-m-ne3 : goal.returns-else-m-ne3
returns-else-m-ne3 c =
    let m = c.args.m.now in
    let v : c.if-name_fits.value ≡ (name_fits m.length && not (eqb m.place 3)) =
    elim c.if-name_fits.branch [ then-name_fits w ↦ grind (arith, nat_tests, w.value-is, w.if-name_fits, c.name_fits.ensures, c.from.ensures) | else-name_fits w ↦ grind (arith, nat_tests, w.value-is, w.if-name_fits, c.name_fits.ensures, c.from.ensures) ] in
    place_unfit (program_of c.args.p.now) m _ v c.if-m-ne3.false
