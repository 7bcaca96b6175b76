-- `asks_list` asks the words and the state before the first step; nothing is claimed of its answer.
use Rattle.file_decoder.specs.Compiled.{program_of}
use Rattle.machine.proofs.HeldStart.{loaded_compiled}
use Rattle.force.proofs.answering.asks_list.Goals as goal

pub tails_of-tails-requires : goal.tails_of-tails-requires
tails_of-tails-requires c = (program_of c.args.program, loaded_compiled c.args.program c.requires)

pub started-requires : goal.started-requires
started-requires c = (program_of c.args.program, loaded_compiled c.args.program c.requires)
