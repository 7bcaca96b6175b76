-- `continue_from` admits the file first.
use Rattle.std.proofs.Common.{ap, ◌∙◌}
use Rattle.spec_file.specs.Decode.{decode}
use Rattle.file_decoder.specs.Compiled.{program_of}
use Rattle.file_decoder.proofs.Said.{answer_refused, answer_accepted}
use Rattle.spec_schedules.specs.Calls.{Result}
use Rattle.spec_model.specs.OnFile.{admit}
use Rattle.listing_model.specs.ModelOf.{model_of}
use Rattle.listing_model.proofs.ModelLaws.{model_laws}
use Rattle.listing_replay.proofs.ListedProgram.{passed_on, answer_listed}
use Rattle.listing.specs.AnswerOf.{list_answer_of}
use Rattle.listing.proofs.FileCalls.{continue_file_lem, continue_file_refused}
use Rattle.listing.proofs.calling.continue_from.Goals as goal

pub returns-in_err-program : goal.returns-in_err-program
returns-in_err-program c =
    let args = c.args in
    let M = model_of args.model in
    let e = continue_file_refused M args.file.now args.schedule.now args.out.now _ (answer_refused c.admitted.result (admit M (decode args.file.now)) c.admitted.ensures _ c.in_err-program.was) in
    record { answer = passed_on _ _ c.from_residual.ensures.1 ∙ e.0; output = e.1 }

pub continued-requires : goal.continued-requires
continued-requires c = answer_listed (model_of c.args.model) (model_laws c.args.model) c.admitted.result _ c.args.file.now c.admitted.ensures c.in_ok-program.was

pub returns : goal.returns
returns c =
    let args = c.args in
    let M = model_of args.model in
    let e = continue_file_lem M args.file.now args.schedule.now args.out.now (program_of c.in_ok-program.program) (answer_accepted c.admitted.result (admit M (decode args.file.now)) c.admitted.ensures _ c.in_ok-program.was) in
    record { answer = c.continued.ensures.answer ∙ ap (λ (r : Result). list_answer_of r.0) e; output = c.continued.ensures.output ∙ ap (λ (r : Result). r.1) e }
