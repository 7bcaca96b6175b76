-- `counted_plainly` counts from the start, without a table.
use Rattle.std.proofs.Common.{◌∙◌, []}
use Rattle.file_decoder.specs.Compiled.{program_of}
use Rattle.machine.proofs.HeldAsking.{fails_by_lem}
use Rattle.machine.proofs.HeldStart.{loaded_compiled, starting_compiled}
use Rattle.search_place.specs.Reached.{Reached}
use Rattle.search_place.proofs.ReachedStep.{reached_ended}
use Rattle.search_walk.proofs.ListedRows.{lines_known}
use Rattle.states_walk.proofs.Numbered.{ended_one}
use Rattle.states_walk.proofs.FromStart.{start_count}
use Rattle.states_walk.proofs.answering.counted_plainly.Goals.{After-begun-x}
use Rattle.states_walk.proofs.answering.counted_plainly.Goals as goal

pub begun-x-requires : goal.begun-x-requires
begun-x-requires c = (program_of c.args.program, loaded_compiled c.args.program c.requires)

-- the start
reached : (c : After-begun-x) → Reached c.args.program.code c.args.program.lengths c.known_lines-class.result c.args.program.threads c.args.program.groups c.begun-x.result (program_of c.args.program) []
reached c =
    let program = c.args.program in
    let lines = lines_known program c.known_lines-class.result c.known_lines-class.ensures.0 c.known_lines-class.ensures.1 in
    c.begun-x.ensures c.known_lines-class.result program.groups (program_of program) (loaded_compiled program c.requires) (starting_compiled program) lines

pub returns-then-x-eq0 : goal.returns-then-x-eq0
returns-then-x-eq0 c =
    let program = c.args.program in
    let at = reached (goal.at.returns-then-x-eq0 c).After-begun-x in
    start_count (program_of program) c.requires c.some_failed-failed.result (c.some_failed-failed.ensures ∙ fails_by_lem at.holds) 1 0 _ _
    (ended_one (program_of program) [] (reached_ended program.code program.lengths c.known_lines-class.result program.threads program.groups c.begun-x.result (program_of program) [] at c.if-x-eq0.true))
    c.charged.ensures.0 c.charged.ensures.1

pub tally_behind-requires : goal.tally_behind-requires
tally_behind-requires c =
    let program = c.args.program in
    ((program.threads, program.groups, program_of program, [], reached (goal.at.tally_behind-requires c).After-begun-x), c.left_sets-left.ensures, c.if-x-eq0.false)

pub returns : goal.returns
returns c =
    let program = c.args.program in
    let at = reached (goal.at.returns c).After-begun-x in
    let n = c.tally_behind in
    start_count (program_of program) c.requires c.some_failed-failed.result (c.some_failed-failed.ensures ∙ fails_by_lem at.holds) n.result.listed n.result.failing _ _
    (n.ensures program.threads program.groups (program_of program) [] at) c.charged-2.ensures.0 c.charged-2.ensures.1
