-- `violation_with` admits the file first.
use Rattle.std.proofs.Common.{true, refl, ◌∙◌}
use Rattle.file_decoder.specs.Compiled.{program_of}
use Rattle.spec_file.specs.Decode.{decode}
use Rattle.spec_model.specs.OnFile.{admit}
use Rattle.spec_model.specs.Search.{sought}
use Rattle.listing_model.specs.ModelOf.{model_of}
use Rattle.listing_model.proofs.ModelLaws.{model_laws}
use Rattle.file_decoder.proofs.Said.{answer_refused, answer_accepted}
use Rattle.listing_replay.proofs.ListedProgram.{passed_on, answer_listed}
use Rattle.listing.proofs.FileCalls.{violation_refused, violation_answer, violation_output}
use Rattle.states_call.proofs.LentCalls.{violation_kept, violation_zeros}
use Rattle.states_call.proofs.lent.violation_with.Goals as goal

pub returns-in_err-program : goal.returns-in_err-program
returns-in_err-program c =
    let args = c.args in
    let M = model_of args.model in
    let e = answer_refused c.program_from.result (admit M (decode args.file.now)) c.program_from.ensures _ c.in_err-program.was in
    let q = violation_refused M args.file.now args.out.now _ e in
    record { answer = passed_on _ _ c.from_residual.ensures.1 ∙ q.0; output = q.1; later = violation_kept M args.file.now args.scratch.now args.out.now _ e }

pub first_with-requires : goal.first_with-requires
first_with-requires c = answer_listed (model_of c.args.model) (model_laws c.args.model) c.program_from.result _ c.args.file.now c.program_from.ensures c.in_ok-program.was

pub returns : goal.returns
returns c =
    let args = c.args in
    let M = model_of args.model in
    let r = c.first_with.ensures in
    let e = answer_accepted c.program_from.result (admit M (decode args.file.now)) c.program_from.ensures _ c.in_ok-program.was in
    let p = program_of c.in_ok-program.program in
    record {
      answer = r.answer ∙ violation_answer M args.file.now args.out.now p e (sought M true p) refl;
      output = r.output ∙ violation_output M args.file.now args.out.now p e (sought M true p) refl;
      later = r.later ∙ violation_zeros M args.file.now args.scratch.now args.out.now p e;
    }
