-- `next_rows` admits the file first.
use Rattle.std.proofs.Common.{false, ◌∙◌}
use mathlib.Core.Option.{some}
use Rattle.listing_cursor.proofs.ListPages.{sought_48}
use Rattle.file_decoder.specs.Compiled.{program_of}
use Rattle.file_decoder.proofs.Said.{answer_refused, answer_accepted}
use Rattle.spec_file.specs.Decode.{decode}
use Rattle.spec_model.specs.OnFile.{admit}
use Rattle.spec_model.specs.Search.{sought}
use Rattle.listing_model.specs.ModelOf.{model_of}
use Rattle.listing_model.proofs.ModelLaws.{model_laws, need_48}
use Rattle.listing_replay.proofs.ListedProgram.{passed_on, answer_listed}
use Rattle.rows_call.proofs.RowsAnswered.{rows_refused, rows_paged}
use Rattle.rows_call.proofs.row_calls.next_rows.Goals as goal

pub returns-in_err-program : goal.returns-in_err-program
returns-in_err-program c =
    let args = c.args in
    let M = model_of args.model in
    let whole = rows_refused M args.file.now args.out.now (some args.schedule.now) _ (answer_refused c.admitted.result (admit M (decode args.file.now)) c.admitted.ensures _ c.in_err-program.was) in
    record { answer = passed_on _ _ c.from_residual.ensures.1 ∙ whole.0; output = whole.1 }

pub next_page-page-requires : goal.next_page-page-requires
next_page-page-requires c = answer_listed (model_of c.args.model) (model_laws c.args.model) c.admitted.result _ c.args.file.now c.admitted.ensures c.in_ok-program.was

pub returns : goal.returns
returns c =
    let args = c.args in
    let M = model_of args.model in
    let p = program_of c.in_ok-program.program in
    let page = c.next_page-page in
    let e = answer_accepted c.admitted.result (admit M (decode args.file.now)) c.admitted.ensures _ c.in_ok-program.was in
    let w = answer_listed M (model_laws args.model) c.admitted.result _ args.file.now c.admitted.ensures c.in_ok-program.was in
    let behind = c.behind.ensures (sought M false p) (sought_48 M (model_laws args.model) p w false (need_48 args.model)) in
    let whole = rows_paged M args.file.now args.out.now (some args.schedule.now) p _ _ page.result e behind page.ensures in
    record { answer = whole.0; output = whole.1 }
