-- `begun` stands before the first step, with all threads that have an instruction left.
use Rattle.std.proofs.Common.{refl}
use Rattle.spec_sc.specs.State.{start}
use Rattle.search_place.proofs.ReachedStep.{reached_start}
use Rattle.search_place.proofs.going.begun.Goals as goal

pub returns : goal.returns
returns c =
    let a = c.args in
    let started = c.started-m in
    λ class groups p loaded e lines.
    reached_start a.program.now.code a.program.now.lengths class a.program.now.threads groups started.result _ c.live_set.result p loaded lines (started.ensures.1 p loaded e)
    (c.live_set.ensures a.program.now.code started.result (start p) refl (started.ensures.1 p loaded e))
