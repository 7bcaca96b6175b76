-- `violation` admits the file first.
use Rattle.std.proofs.Common.{true, ◌∙◌}
use Rattle.spec_file.specs.Decode.{decode}
use Rattle.file_decoder.specs.Compiled.{program_of}
use Rattle.file_decoder.proofs.Said.{answer_refused, answer_accepted}
use Rattle.spec_model.specs.OnFile.{admit}
use Rattle.spec_model.specs.Search.{sought}
use Rattle.listing_model.specs.ModelOf.{model_of}
use Rattle.listing_model.proofs.ModelLaws.{model_laws}
use Rattle.listing_replay.proofs.ListedProgram.{passed_on, answer_listed}
use Rattle.listing.proofs.FileCalls.{violation_refused, violation_answer, violation_output}
use Rattle.listing.proofs.calling.violation.Goals as goal

pub returns-in_err-program : goal.returns-in_err-program
returns-in_err-program c =
    let args = c.args in
    let M = model_of args.model in
    let e = violation_refused M args.file.now args.out.now _ (answer_refused c.admitted.result (admit M (decode args.file.now)) c.admitted.ensures _ c.in_err-program.was) in
    record { answer = passed_on _ _ c.from_residual.ensures.1 ∙ e.0; output = e.1 }

pub next_listed-requires : goal.next_listed-requires
next_listed-requires c = answer_listed (model_of c.args.model) (model_laws c.args.model) c.admitted.result _ c.args.file.now c.admitted.ensures c.in_ok-program.was

pub returns : goal.returns
returns c =
    let args = c.args in
    let M = model_of args.model in
    let p = program_of c.in_ok-program.program in
    let e = answer_accepted c.admitted.result (admit M (decode args.file.now)) c.admitted.ensures _ c.in_ok-program.was in
    let all = c.beginning.ensures (sought M true p) in
    record { answer = c.next_listed.ensures.answer ∙ violation_answer M args.file.now args.out.now p e _ all; output = c.next_listed.ensures.output ∙ violation_output M args.file.now args.out.now p e _ all }
