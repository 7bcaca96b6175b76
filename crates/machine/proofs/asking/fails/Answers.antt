-- `fails` asks the machine's threads.
use Rattle.machine.proofs.asking.fails.Goals as goal

pub returns : goal.returns
returns c = c.some_failed.ensures
