-- `listed_rows` walks from the start.
use Rattle.std.proofs.Common.{sym, ◌∙◌, [], arith}
use Rattle.file_decoder.specs.Compiled.{program_of}
use Rattle.machine.proofs.HeldStart.{loaded_compiled, starting_compiled}
use Rattle.search_place.specs.ClassGroups.{Lined}
use Rattle.search_place.proofs.ClassGroups.{program_groups}
use Rattle.spec_tso.proofs.Laws.{at_most_16}
use Rattle.tso_walk.proofs.ListedRows.{walk_whole, rooms}
use Rattle.tso_walk.proofs.listed.listed_rows.Goals as goal

pub begun-x-requires : goal.begun-x-requires
begun-x-requires c =
    let program = c.args.program in
    (program_of program, loaded_compiled program c.requires.0, starting_compiled program, at_most_16 (program_of program) c.requires.1)

pub walk-requires : goal.walk-requires
walk-requires c =
    let program = c.args.program in
    let known = c.known_lines-class in
    let lines : Lined known.result program.groups (program_of program) = record { same = program_groups program ∙ sym known.ensures.1; known = known.ensures.0 } in
    let reached = c.begun-x.ensures known.result program.groups (program_of program) (loaded_compiled program c.requires.0) (starting_compiled program) (at_most_16 (program_of program) c.requires.1) lines in
    ((program.threads, program.groups, program_of program, [], reached), c.left_sets-left.ensures, omega arith, rooms _)

pub returns : goal.returns
returns c =
    let a = c.args in
    let program = a.program in
    let known = c.known_lines-class in
    let lines : Lined known.result program.groups (program_of program) = record { same = program_groups program ∙ sym known.ensures.1; known = known.ensures.0 } in
    let reached = c.begun-x.ensures known.result program.groups (program_of program) (loaded_compiled program c.requires.0) (starting_compiled program) (at_most_16 (program_of program) c.requires.1) lines in
    walk_whole (program_of program) a.failures a.tight a.bound.now a.out.now _ _ c.requires _ reached.counted
    (c.walk.ensures.added program.threads program.groups (program_of program) [] reached)
