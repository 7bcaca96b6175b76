-- `outcomes` admits the file first.
use Rattle.std.proofs.Common.{arith, ◌∙◌}
use Rattle.spec_file.specs.Decode.{decode}
use Rattle.file_decoder.specs.Compiled.{program_of}
use Rattle.file_decoder.proofs.Said.{answer_refused, answer_accepted}
use Rattle.spec_model.specs.OnFile.{admit}
use Rattle.listing_model.specs.ModelOf.{model_of}
use Rattle.listing_model.proofs.ModelLaws.{model_laws, need_48}
use Rattle.listing_replay.proofs.ListedProgram.{passed_on, answer_listed}
use Rattle.outcomes_call.proofs.Pages.{said_refused, said_short, said_rows}
use Rattle.outcomes_call.proofs.outcomes_call.outcomes.Goals as goal

pub returns-in_err-program : goal.returns-in_err-program
returns-in_err-program c =
    let a = c.args in
    let M = model_of a.model in
    let r = c.in_err-program.field-0.0 in
    let whole = said_refused M a.file.now a.from a.out.now a.scratch.now r.number r.place (answer_refused c.admitted.result (admit M (decode a.file.now)) c.admitted.ensures r c.in_err-program.was) in
    record { answer = passed_on c.from_residual.result r c.from_residual.ensures.1 ∙ whole.answer; output = whole.output; later = whole.later }

pub overflow_add-width : goal.overflow_add-width
overflow_add-width c = record { fits = omega (arith, c.width.ensures, need_48 c.args.model) }

pub returns-then-out-width : goal.returns-then-out-width
returns-then-out-width c =
    let a = c.args in
    let M = model_of a.model in
    let p = c.in_ok-program.program in
    let e = answer_accepted c.admitted.result (admit M (decode a.file.now)) c.admitted.ensures p c.in_ok-program.was in
    let whole = said_short M a.file.now a.from a.out.now a.scratch.now (program_of p) e (omega (arith, c.if-out-width.true, c.width.ensures)) in
    record { answer = whole.answer; output = whole.output; later = whole.later }

pub outcomes_of-requires : goal.outcomes_of-requires
outcomes_of-requires c =
    let a = c.args in
    answer_listed (model_of a.model) (model_laws a.model) c.admitted.result c.in_ok-program.program a.file.now c.admitted.ensures c.in_ok-program.was

pub returns : goal.returns
returns c =
    let a = c.args in
    let M = model_of a.model in
    let p = c.in_ok-program.program in
    let e = answer_accepted c.admitted.result (admit M (decode a.file.now)) c.admitted.ensures p c.in_ok-program.was in
    let r = c.outcomes_of.ensures in
    let whole = said_rows M a.file.now a.from a.out.now a.scratch.now (program_of p) e (omega (arith, c.if-out-width.false, c.width.ensures)) _ _ _ r.count r.output r.later in
    record { answer = whole.answer; output = whole.output; later = whole.later }
