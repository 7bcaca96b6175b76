-- `graph_of` carries out the schedule and writes the text of its notes.
use Rattle.std.proofs.Common.{◌∙◌}
use Rattle.file_decoder.specs.Compiled.{program_of}
use Rattle.listing_model.specs.ModelOf.{model_of}
use Rattle.listing_replay.proofs.ListedProgram.{passed_on}
use Rattle.graph_call.proofs.Called.{graph_short, graph_refused, graph_answered}
use Rattle.graph_call.proofs.calling.graph_of.Goals as goal

pub returns-then-out-lt512 : goal.returns-then-out-lt512
returns-then-out-lt512 c =
    let args = c.args in
    let e = graph_short (model_of args.model) (program_of args.program) args.schedule.now args.out.now c.if-out-lt512.true in
    record { answer = e.0; output = e.1 }

pub returns-in_err-run : goal.returns-in_err-run
returns-in_err-run c =
    let args = c.args in
    let e = graph_refused args.model (program_of args.program) args.schedule.now c.replayed-run.result c.replayed-run.ensures args.out.now c.if-out-lt512.false _ c.in_err-run.was in
    record { answer = passed_on _ _ c.from_residual.ensures.1 ∙ e.0; output = e.1 }

pub returns : goal.returns
returns c =
    let args = c.args in
    let e = graph_answered args.model (program_of args.program) args.schedule.now c.replayed-run.result c.replayed-run.ensures args.out.now c.if-out-lt512.false c.in_ok-run.was _ _ c.write_graph.ensures in
    record { answer = e.0; output = e.1 }
