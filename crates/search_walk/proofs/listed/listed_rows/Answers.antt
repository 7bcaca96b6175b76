-- `listed_rows` walks from the start.
use Rattle.std.proofs.Common.{[], arith}
use Rattle.file_decoder.specs.Compiled.{program_of}
use Rattle.machine.proofs.HeldStart.{loaded_compiled, starting_compiled}
use Rattle.search_walk.proofs.ListedRows.{lines_known, walk_whole, rooms}
use Rattle.search_walk.proofs.listed.listed_rows.Goals as goal

pub begun-x-requires : goal.begun-x-requires
begun-x-requires c =
    let w = c.requires in
    let a = c.args in
    let program = a.program in
    (program_of program, loaded_compiled program w)

pub walk-requires : goal.walk-requires
walk-requires c =
    let w = c.requires in
    let a = c.args in
    let program = a.program in
    let loaded = loaded_compiled program w in
    let lines = lines_known program c.known_lines-class.result c.known_lines-class.ensures.0 c.known_lines-class.ensures.1 in
    let reached = c.begun-x.ensures c.known_lines-class.result program.groups (program_of program) loaded (starting_compiled program) lines in
    ((program.threads, program.groups, program_of program, [], reached), c.left_sets-left.ensures, omega arith, rooms _)

pub returns : goal.returns
returns c =
    let w = c.requires in
    let a = c.args in
    let program = a.program in
    let loaded = loaded_compiled program w in
    let lines = lines_known program c.known_lines-class.result c.known_lines-class.ensures.0 c.known_lines-class.ensures.1 in
    let reached = c.begun-x.ensures c.known_lines-class.result program.groups (program_of program) loaded (starting_compiled program) lines in
    walk_whole (program_of program) a.failures a.tight a.bound.now a.out.now _ _ w _ reached.counted
    (c.walk.ensures.added program.threads program.groups (program_of program) [] reached)
