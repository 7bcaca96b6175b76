-- `graph` admits the file first.
use Rattle.std.proofs.Common.{sym, ap, ◌∙◌}
use Rattle.spec_file.specs.Decode.{decode}
use Rattle.file_decoder.specs.Compiled.{program_of}
use Rattle.file_decoder.proofs.Said.{answer_refused, answer_accepted}
use Rattle.spec_model.specs.OnFile.{admit}
use Rattle.spec_model.specs.GraphCall.{GraphResult, graph_output}
use Rattle.listing_model.specs.ModelOf.{model_of}
use Rattle.listing_model.proofs.ModelLaws.{model_laws}
use Rattle.listing_replay.proofs.ListedProgram.{passed_on, answer_listed}
use Rattle.graph_call.specs.GraphWord.{graph_answer_of}
use Rattle.graph_call.proofs.Called.{file_refused, file_answered}
use Rattle.graph_call.proofs.calling.graph.Goals as goal

pub returns-in_err-program : goal.returns-in_err-program
returns-in_err-program c =
    let args = c.args in
    let M = model_of args.model in
    let e = file_refused M args.file.now args.schedule.now args.out.now _ (answer_refused c.program_from.result (admit M (decode args.file.now)) c.program_from.ensures _ c.in_err-program.was) in
    record { answer = passed_on _ _ c.from_residual.ensures.1 ∙ e.0; output = e.1 }

pub graph_of-requires : goal.graph_of-requires
graph_of-requires c = answer_listed (model_of c.args.model) (model_laws c.args.model) c.program_from.result _ c.args.file.now c.program_from.ensures c.in_ok-program.was

pub returns : goal.returns
returns c =
    let args = c.args in
    let M = model_of args.model in
    let q = answer_accepted c.program_from.result (admit M (decode args.file.now)) c.program_from.ensures _ c.in_ok-program.was in
    let e = sym (file_answered M args.file.now args.schedule.now args.out.now (program_of c.in_ok-program.program) q) in
    record { answer = c.graph_of.ensures.answer ∙ ap graph_answer_of e; output = c.graph_of.ensures.output ∙ ap (λ (a : GraphResult). graph_output a args.out.now) e }
