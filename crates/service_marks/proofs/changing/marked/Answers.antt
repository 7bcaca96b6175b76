-- `marked` puts the new mark into its slot.
use Rattle.std.proofs.Common.{ap₂, List, set}
use Rattle.spec_service.specs.declared.caller.Mark.{Mark}
use Rattle.spec_service.specs.Record.{with_marks}
use Rattle.service_marks.proofs.changing.marked.Goals as goal

pub returns : goal.returns
unfolding with_marks
returns c =
    let x = c.args in
    ap₂ (λ (l : List Mark) (m : Mark). with_marks x.c.now (set l x.i m)) c.emptied-marks.ensures c.new_mark.ensures
