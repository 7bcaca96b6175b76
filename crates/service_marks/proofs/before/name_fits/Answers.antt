-- `name_fits` asks whether the length is in a range.
use Rattle.std.proofs.Common.{arith}
use Rattle.std.proofs.lemmas.Bool.Decides.{nat_tests}
use Rattle.std.proofs.lemmas.Grind.{common_steps}
use Rattle.spec_service.specs.Marks.{name_fits}
use Rattle.service_marks.proofs.before.name_fits.Goals as goal

pub returns : goal.returns
unfolding name_fits
returns c =
    let range = c.new.ensures in
    let e = rw (range.exhausted, range.start, range.end) at c.contains.ensures.value in
    grind (arith, nat_tests, common_steps, e)
