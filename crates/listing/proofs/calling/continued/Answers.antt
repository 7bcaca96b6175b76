-- `continued` asks first whether the schedule is full.
use Rattle.std.proofs.Common.{ℕ, ◌<◌, ◌≤◌, false, length, ap, ◌∙◌, subst}
use Rattle.file_decoder.specs.Compiled.{program_of}
use Rattle.spec_model.specs.Search.{sought}
use Rattle.listing_cursor.proofs.ListPages.{sought_48}
use Rattle.listing_model.specs.ModelOf.{model_of}
use Rattle.listing_model.proofs.ModelLaws.{model_laws, need_48}
use Rattle.listing_replay.proofs.ListedProgram.{passed_on}
use Rattle.listing.specs.AnswerOf.{list_answer_of}
use Rattle.listing.proofs.FileCalls.{continue_short, continue_refused, continue_whole, continue_output}
use Rattle.listing.proofs.calling.continued.Goals as goal

pub returns-then-out-width : goal.returns-then-out-width
returns-then-out-width c =
    let args = c.args in
    let e = continue_short (model_of args.model) (program_of args.program) args.schedule.now args.out.now (subst (λ (n : ℕ). length args.out.now < n) c.width.ensures c.if-out-width.true) in
    record { answer = e.0; output = e.1 }

pub returns-in_err-carried_out : goal.returns-in_err-carried_out
returns-in_err-carried_out c =
    let args = c.args in
    let wide = subst (λ (n : ℕ). n ≤ length args.out.now) c.width.ensures c.if-out-width.false in
    let e = continue_refused (model_of args.model) (program_of args.program) args.schedule.now args.out.now wide c.carried_out.result c.carried_out.ensures _ c.in_err-carried_out.was in
    record { answer = passed_on _ _ c.from_residual.ensures.1 ∙ e.0; output = e.1 }

pub returns : goal.returns
returns c =
    let args = c.args in
    let M = model_of args.model in
    let p = program_of args.program in
    let wide = subst (λ (n : ℕ). n ≤ length args.out.now) c.width.ensures c.if-out-width.false in
    let after = c.behind.ensures (sought M false p) (sought_48 M (model_laws args.model) p c.requires false (need_48 args.model)) in
    record {
      answer = c.next_listed.ensures.answer ∙ ap list_answer_of (continue_whole M p args.schedule.now args.out.now wide c.carried_out.result c.carried_out.ensures _ after c.in_ok-carried_out.was);
      output = c.next_listed.ensures.output ∙ continue_output M p args.schedule.now args.out.now wide c.carried_out.result c.carried_out.ensures _ after c.in_ok-carried_out.was;
    }
