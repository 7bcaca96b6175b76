-- `admitted` decodes the file, and asks whether the model turns its program away.
use Rattle.std.proofs.Common.{ap, ◌∙◌, Bool, cond}
use mathlib.Core.Option.{none, some}
use Rattle.spec_file.specs.Decode.{decode}
use Rattle.file_decoder.proofs.Decoded.{decoded_well_formed}
use Rattle.listing_model.specs.ModelOf.{model_of}
use Rattle.listing_replay.proofs.ListedProgram.{passed_on, admits_refused, admits_program, turned_away}
use Rattle.listing_replay.proofs.admitting.admitted.Goals as goal

pub returns-in_err-program : goal.returns-in_err-program
returns-in_err-program c =
    let args = c.args in
    rw (passed_on _ _ c.from_residual.ensures.1) (admits_refused (model_of args.model) c.decode.result (decode args.file.now) c.decode.ensures _ c.in_err-program.was)

pub turns_away-requires : goal.turns_away-requires
turns_away-requires c = decoded_well_formed c.decode.result c.args.file.now c.decode.ensures _ c.in_ok-program.was

pub returns-then-turns_away : goal.returns-then-turns_away
returns-then-turns_away c =
    let args = c.args in
    turned_away (model_of args.model) c.decode.result (decode args.file.now) c.decode.ensures _ c.in_ok-program.was _
    (c.turns_away.ensures ∙ ap (λ (b : Bool). cond b (some (41, 0)) none) c.if-turns_away.true)

pub returns : goal.returns
returns c =
    let args = c.args in
    admits_program (model_of args.model) c.decode.result (decode args.file.now) c.decode.ensures _ c.in_ok-program.was
    (c.turns_away.ensures ∙ ap (λ (b : Bool). cond b (some (41, 0)) none) c.if-turns_away.false)
