-- The same step, without last writes and note.
use Rattle.machine.proofs.HeldStep.{moved_holds}
use Rattle.machine.proofs.stepping.lean_step.Goals as goal

pub returns : goal.returns
returns c =
    let args = c.args in
    λ m σ et em held ok near. moved_holds args.program.now.code args.program.now.lengths m σ args.t c.after_step-a.result (c.after_step-a.ensures.step m σ et em held ok near)
