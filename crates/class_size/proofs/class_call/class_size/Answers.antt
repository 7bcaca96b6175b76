-- `class_size` admits the file first.
use Rattle.std.proofs.Common.{ap, ◌∙◌}
use Rattle.spec_file.specs.Decode.{decode}
use Rattle.file_decoder.specs.Compiled.{program_of}
use Rattle.file_decoder.proofs.Said.{answer_refused, answer_accepted}
use Rattle.spec_model.specs.OnFile.{admit}
use Rattle.listing_model.specs.ModelOf.{model_of}
use Rattle.listing_model.proofs.ModelLaws.{model_laws}
use Rattle.listing_replay.proofs.ListedProgram.{passed_on, answer_listed}
use Rattle.class_size.specs.ClassWord.{class_answer_of}
use Rattle.class_size.proofs.ClassCalled.{file_refused, file_sized}
use Rattle.class_size.proofs.class_call.class_size.Goals as goal

pub returns-in_err-program : goal.returns-in_err-program
returns-in_err-program c =
    let args = c.args in
    let M = model_of args.model in
    passed_on _ _ c.from_residual.ensures.1
    ∙ file_refused M args.file.now args.schedule.now _ (answer_refused c.program_from.result (admit M (decode args.file.now)) c.program_from.ensures _ c.in_err-program.was)

pub class_of-requires : goal.class_of-requires
class_of-requires c = answer_listed (model_of c.args.model) (model_laws c.args.model) c.program_from.result _ c.args.file.now c.program_from.ensures c.in_ok-program.was

pub returns : goal.returns
returns c =
    let args = c.args in
    let M = model_of args.model in
    let e = answer_accepted c.program_from.result (admit M (decode args.file.now)) c.program_from.ensures _ c.in_ok-program.was in
    c.class_of.ensures ∙ ap class_answer_of (file_sized M args.file.now args.schedule.now (program_of c.in_ok-program.program) e)
