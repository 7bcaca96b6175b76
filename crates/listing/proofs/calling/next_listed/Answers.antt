-- `next_listed` lends `next_of` a row of the model's width.
use Rattle.std.proofs.Common.{◌≡◌, ℕ, ◌+◌, ◌<◌, ◌≤◌, Bool, false, length, sym, ap, ◌∙◌, subst, arith, length-take-le, le-ltb}
use Rattle.file_decoder.specs.Compiled.{program_of}
use Rattle.spec_schedules.specs.Lists.{head_of}
use Rattle.spec_schedules.specs.Calls.{Answer, answer_to, short, content}
use Rattle.spec_schedules.proofs.Offered.{content_refused}
use Rattle.listing_cursor.specs.ListRows.{remaining}
use Rattle.spec_calls.proofs.Answered.{answer_short}
use Rattle.listing_model.specs.ModelOf.{model_of}
use Rattle.listing_model.proofs.ModelLaws.{need_48}
use Rattle.std.specs.Prelude.{Ok}
use Rattle.listing.specs.AnswerOf.{list_answer_of}
use Rattle.listing.proofs.FileCalls.{found_answer}
use Rattle.listing.proofs.calling.next_listed.Goals as goal

pub returns-then-out-need : goal.returns-then-out-need
unfolding list_answer_of
returns-then-out-need c =
    let args = c.args in
    let out = args.out.now in
    let e = answer_short (model_of args.model).need out _ (subst (λ (n : ℕ). length out < n) c.width-need.ensures c.if-out-need.true) in
    record { answer = ap list_answer_of (sym e); output = sym (content_refused 22 0 out) ∙ ap (λ (a : Answer). content a out) (sym e) }

pub overflow_add-row : goal.overflow_add-row
overflow_add-row c = omega (arith, c.width-need.ensures, need_48 c.args.model)

pub slice_bounds-row-end : goal.slice_bounds-row-end
slice_bounds-row-end c = omega (arith, c.width-need.ensures, need_48 c.args.model)

pub slice_bounds-next_of-end : goal.slice_bounds-next_of-end
slice_bounds-next_of-end c = sym (length-take-le _ _ (omega (arith, c.width-need.ensures, need_48 c.args.model)))

pub next_of-requires : goal.next_of-requires
next_of-requires c =
    let w = c.width-need.ensures in (
      c.requires,
      length-take-le _ _ (omega (arith, w, need_48 c.args.model)) ∙ ap (λ (n : ℕ). n + 2) w,
      subst (λ (n : ℕ). n ≤ length c.args.out.now) w c.if-out-need.false,
    )

pub returns : goal.returns
returns c =
    let args = c.args in
    let M = model_of args.model in
    let out = args.out.now in
    let o = head_of (remaining M (program_of args.program) args.failures args.cursor) in
    let next_of = c.next_of in
    let long : short M.need out ≡ false = le-ltb (length out) M.need (subst (λ (n : ℕ). n ≤ length out) c.width-need.ensures c.if-out-need.false) in
    let e : answer_to false o ≡ answer_to (short M.need out) o = ap (λ (b : Bool). answer_to b o) (sym long) in
    record { answer = ap Ok next_of.ensures.answer ∙ found_answer o ∙ ap list_answer_of e; output = next_of.ensures.output ∙ ap (λ (a : Answer). content a out) e }
