-- The machine of sequential consistency before its first step, with empty queues.
use Rattle.tso_machine.proofs.HeldFirst.{first_held}
use Rattle.tso_machine.proofs.starting.started.Goals as goal

pub returns : goal.returns
returns c = λ p loaded e few. first_held c.args.program.now.code c.args.program.now.lengths c.args.program.now.threads p loaded few c.started.result (c.started.ensures.1 p loaded e) c.first_slots-first.result c.first_slots-first.ensures
