-- `count` admits the file first.
use Rattle.std.proofs.Common.{◌∙◌}
use Rattle.spec_file.specs.Decode.{decode}
use Rattle.file_decoder.proofs.Said.{answer_refused, answer_accepted}
use Rattle.spec_model.specs.OnFile.{admit}
use Rattle.listing_model.specs.ModelOf.{model_of}
use Rattle.listing_model.proofs.ModelLaws.{model_laws}
use Rattle.listing_replay.proofs.ListedProgram.{passed_on, answer_listed}
use Rattle.listing.proofs.CountCalled.{count_refused, count_answered}
use Rattle.listing.proofs.counting.count.Goals as goal

pub returns-in_err-program : goal.returns-in_err-program
returns-in_err-program c =
    let M = model_of c.args.model in
    let file = c.args.file.now in
    passed_on _ _ c.from_residual.ensures.1 ∙ count_refused M file _ (answer_refused c.admitted.result (admit M (decode file)) c.admitted.ensures _ c.in_err-program.was)

pub counts-requires : goal.counts-requires
counts-requires c = answer_listed (model_of c.args.model) (model_laws c.args.model) c.admitted.result _ c.args.file.now c.admitted.ensures c.in_ok-program.was

pub returns : goal.returns
returns c =
    let M = model_of c.args.model in
    let file = c.args.file.now in
    count_answered M file _ (answer_accepted c.admitted.result (admit M (decode file)) c.admitted.ensures _ c.in_ok-program.was) _ c.counts.ensures
