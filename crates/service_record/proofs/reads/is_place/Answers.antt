-- `is_place` goes by the number of the place.
use Rattle.std.proofs.Common.{◌∙◌, arith, rules, tests}
use Rattle.std.proofs.lemmas.Bool.Decides.{nat_tests}
use Rattle.file_decoder.specs.Compiled.{program_of}
use Rattle.spec_service.specs.Record.{place_of}
use Rattle.service_record.specs.Tested.{is_place}
use Rattle.service_record.proofs.Opened.{place_behind}
use Rattle.service_record.proofs.reads.is_place.Goals as goal

pub returns-in-1 : goal.returns-in-1
unfolding place_of is_place
returns-in-1 c = grind (arith, nat_tests, c.in-1.is)

pub returns-then-steps-le24 : goal.returns-then-steps-le24
returns-then-steps-le24 c =
    let a = c.args in
    c.is_full.ensures ∙ place_behind (program_of a.p.now) a.place a.steps a.schedule.now _ c.in-2.is c.if-steps-le24.true c.from.ensures

pub returns-else-steps-le24 : goal.returns-else-steps-le24
unfolding place_of is_place
returns-else-steps-le24 c = search (tests, rules)

pub returns-in_default : goal.returns-in_default
unfolding place_of is_place
returns-in_default c = search (tests, rules)
