-- `emptied` empties mark by mark.
use Rattle.std.proofs.Common.{rules, tests}
use Rattle.file_decoder.specs.Compiled.{program_of}
use Rattle.spec_service.specs.Record.{no_mark}
use Rattle.spec_service.specs.Marks.{emptied}
use Rattle.service_marks.proofs.Changed.{emptying, mapped}
use Rattle.service_marks.proofs.changing.emptied.Goals as goal

pub returns : goal.returns
unfolding emptied
returns c =
    let x = c.args in
    mapped _ (emptying (program_of x.p.now) x.name.now) _ (λ m r q k. search (rules, tests)) x.marks _ no_mark 8 (search rules) c.map.ensures.items
