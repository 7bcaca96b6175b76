-- `decided` makes the game ready, and clears the table before and after.
use Rattle.file_decoder.specs.Compiled.{program_of}
use Rattle.machine.proofs.HeldStart.{loaded_compiled, starting_compiled}
use Rattle.force_moves.proofs.Steps.{standing_start}
use Rattle.force.proofs.Starting.{playing_start}
use Rattle.force.proofs.answering.decided.Goals as goal

pub tails_of-tails-requires : goal.tails_of-tails-requires
tails_of-tails-requires c =
    (program_of c.args.program, loaded_compiled c.args.program c.requires)

pub started-m-requires : goal.started-m-requires
started-m-requires c =
    (program_of c.args.program, loaded_compiled c.args.program c.requires)

pub settled-r-requires : goal.settled-r-requires
settled-r-requires c =
    let program = c.args.program in
    let p = program_of program in
    let loaded = loaded_compiled program c.requires in
    let standing = standing_start program.code program.lengths c.tails_of-tails.result program.threads c.started-m.result p loaded c.tails_of-tails.ensures (c.started-m.ensures.1 p loaded (starting_compiled program)) in
    ((program.threads, p, standing), c.width-width.ensures.0)

pub returns-clause-answer : goal.returns-clause-answer
returns-clause-answer c =
    let program = c.args.program in
    let p = program_of program in
    let loaded = loaded_compiled program c.requires in
    let standing = standing_start program.code program.lengths c.tails_of-tails.result program.threads c.started-m.result p loaded c.tails_of-tails.ensures (c.started-m.ensures.1 p loaded (starting_compiled program)) in
    c.settled-r.ensures.answer program.threads p
    (playing_start _ _ _ _ program.threads _ _ _ _ p standing c.live_masks-masks.ensures (c.width-width.ensures.1 program.code program.lengths program.threads p loaded c.live_masks-masks.ensures) c.clear.ensures.nothing)
