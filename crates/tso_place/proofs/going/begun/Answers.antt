-- `begun` stands before the first step: nothing can move, nobody is late or far.
use Rattle.spec_tso.specs.State.{start}
use Rattle.tso_place.proofs.ReachedStep.{reached_start}
use Rattle.tso_place.proofs.going.begun.Goals as goal

pub returns : goal.returns
returns c =
    let a = c.args in
    let m = c.started-m in
    λ class groups p loaded e few lines.
    reached_start a.program.now.code a.program.now.lengths class a.program.now.threads groups m.result _ c.live_set-live.result p loaded few lines (m.ensures p loaded e few) (c.live_set-live.ensures (start p) (m.ensures p loaded e few))
