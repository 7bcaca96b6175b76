-- `forgotten` empties the marks of the name.
use Rattle.std.proofs.Common.{ap}
use Rattle.spec_service.specs.Record.{with_marks}
use Rattle.spec_service.specs.Marks.{mark_forgotten}
use Rattle.service_marks.proofs.changing.forgotten.Goals as goal

pub returns : goal.returns
unfolding with_marks mark_forgotten
returns c = ap (with_marks c.args.c.now) c.emptied-marks.ensures
