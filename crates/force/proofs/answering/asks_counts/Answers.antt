-- `asks_counts` asks the words, the state before the first step and the first row of the list; nothing is claimed of its answer.
use Rattle.file_decoder.specs.Compiled.{program_of}
use Rattle.machine.proofs.HeldStart.{loaded_compiled}
use Rattle.force.proofs.answering.asks_counts.Goals as goal

pub started-requires : goal.started-requires
started-requires c = (program_of c.args.program, loaded_compiled c.args.program c.requires)
