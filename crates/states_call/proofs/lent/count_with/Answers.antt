-- `count_with` admits the file first.
use Rattle.std.proofs.Common.{◌∙◌}
use Rattle.spec_file.specs.Decode.{decode}
use Rattle.spec_model.specs.OnFile.{admit}
use Rattle.listing_model.specs.ModelOf.{model_of}
use Rattle.listing_model.proofs.ModelLaws.{model_laws}
use Rattle.file_decoder.proofs.Said.{answer_refused, answer_accepted}
use Rattle.listing_replay.proofs.ListedProgram.{passed_on, answer_listed}
use Rattle.listing.proofs.CountCalled.{count_refused, count_answered}
use Rattle.states_call.proofs.LentCalls.{count_kept, count_zeros}
use Rattle.states_call.proofs.lent.count_with.Goals as goal

pub returns-in_err-program : goal.returns-in_err-program
returns-in_err-program c =
    let args = c.args in
    let M = model_of args.model in
    let e = answer_refused c.program_from.result (admit M (decode args.file.now)) c.program_from.ensures _ c.in_err-program.was in
    record { answer = passed_on _ _ c.from_residual.ensures.1 ∙ count_refused M args.file.now _ e; later = count_kept M args.file.now args.scratch.now _ e }

pub counts_with-tally-requires : goal.counts_with-tally-requires
counts_with-tally-requires c = answer_listed (model_of c.args.model) (model_laws c.args.model) c.program_from.result _ c.args.file.now c.program_from.ensures c.in_ok-program.was

pub returns : goal.returns
returns c =
    let args = c.args in
    let M = model_of args.model in
    let e = answer_accepted c.program_from.result (admit M (decode args.file.now)) c.program_from.ensures _ c.in_ok-program.was in
    record { answer = count_answered M args.file.now _ e _ c.counts_with-tally.ensures.counts; later = c.counts_with-tally.ensures.later ∙ count_zeros M args.file.now args.scratch.now _ e }
