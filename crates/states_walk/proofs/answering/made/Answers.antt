-- `made` makes ready what a walk needs, one thing after the other.
use Rattle.file_decoder.specs.Compiled.{program_of}
use Rattle.machine.proofs.HeldStart.{loaded_compiled, starting_compiled}
use Rattle.search_walk.proofs.ListedRows.{lines_known}
use Rattle.states_walk.proofs.answering.made.Goals as goal

pub begun-start-requires : goal.begun-start-requires
begun-start-requires c = (program_of c.args.program, loaded_compiled c.args.program c.requires)

pub returns : goal.returns
returns c =
    let program = c.args.program in
    let loaded = loaded_compiled program c.requires in
    let lines = lines_known program c.known_lines-class.result c.known_lines-class.ensures.0 c.known_lines-class.ensures.1 in record {
      left = c.left_sets-left.ensures;
      live = c.live_masks-masks.ensures;
      few = c.width.ensures.0;
      wide = c.width.ensures.1 program.code program.lengths program.threads (program_of program) loaded c.live_masks-masks.ensures;
      stands = c.first_spot.ensures program.code program.lengths c.known_lines-class.result program.threads program.groups (program_of program)
          (c.begun-start.ensures c.known_lines-class.result program.groups (program_of program) loaded (starting_compiled program) lines);
    }
