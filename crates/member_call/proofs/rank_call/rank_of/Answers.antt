-- `rank_of` carries out the schedule first.
use Rattle.std.proofs.Common.{◌∙◌}
use Rattle.file_decoder.specs.Compiled.{program_of}
use Rattle.spec_sc.specs.Sequential.{sc}
use Rattle.listing_replay.proofs.ListedProgram.{passed_on}
use Rattle.member_call.proofs.Called.{rank_stopped, whole_full, rank_whole}
use Rattle.member_call.proofs.rank_call.rank_of.Goals as goal

pub returns-in_err-run : goal.returns-in_err-run
returns-in_err-run c =
    let a = c.args in
    let run = c.replayed-run in
    let whole = rank_stopped sc a.schedule.now a.scratch.now (program_of a.program) run.result.end run.ensures.answer _ c.in_err-run.was in
    record { answer = passed_on _ _ c.from_residual.ensures.1 ∙ whole.0; later = whole.1 }

pub rank-requires : goal.rank-requires
rank-requires c =
    let a = c.args in
    let run = c.replayed-run in
    (c.requires, whole_full sc a.schedule.now a.scratch.now (program_of a.program) run.result.end run.ensures.answer c.in_ok-run.was)

pub returns : goal.returns
returns c =
    let a = c.args in
    let run = c.replayed-run in
    let e = rank_whole sc a.schedule.now a.scratch.now (program_of a.program) run.result.end run.ensures.answer c.in_ok-run.was c.rank.result c.rank.ensures.number in
    record { answer = e.0; later = c.rank.ensures.zeros ∙ e.1 }
