-- `first_with` refuses a short output first.
use Rattle.std.proofs.Common.{ℕ, ◌<◌, ◌≤◌, sym, ap, subst, ◌∙◌, Bool, true, cond, length, lt-ltb, arith}
use Rattle.file_decoder.specs.Compiled.{program_of}
use Rattle.spec_schedules.specs.Lists.{head_of}
use Rattle.spec_schedules.specs.Calls.{Answer, content}
use Rattle.spec_schedules.proofs.Offered.{content_refused}
use Rattle.spec_calls.proofs.Answered.{answer_short}
use Rattle.spec_calls.specs.Scratch.{zeros}
use Rattle.spec_model.specs.Laws.{Admitted}
use Rattle.spec_model.specs.Search.{sought}
use Rattle.listing_model.specs.declared.memory.Model.{Model}
use Rattle.listing_model.specs.ModelOf.{model_of}
use Rattle.listing.specs.AnswerOf.{list_answer_of}
use Rattle.states_call.proofs.LentCalls.{first_put}
use Rattle.states_call.proofs.lent.first_with.Goals as goal

pub returns-then-out-width : goal.returns-then-out-width
unfolding list_answer_of
returns-then-out-width c =
    let args = c.args in
    let M = model_of args.model in
    let out = args.out.now in
    let h = subst (λ (n : ℕ). length out < n) c.width.ensures c.if-out-width.true in
    let e = answer_short M.need out _ h in
    record { answer = ap list_answer_of (sym e); output = sym (content_refused 22 0 out) ∙ ap (λ (a : Answer). content a out) (sym e); later = ap (λ (b : Bool). cond b args.scratch.now (zeros args.scratch.now)) (sym (lt-ltb (length out) M.need h)) }

pub first_failing-requires : goal.first_failing-requires
first_failing-requires c = (subst (λ (m : Model). Admitted (model_of m) (program_of c.args.program)) c.in-Sequential.is c.requires).0

pub first_failing-requires-in-TotalStoreOrder : goal.first_failing-requires-in-TotalStoreOrder
first_failing-requires-in-TotalStoreOrder c = subst (λ (m : Model). Admitted (model_of m) (program_of c.args.program)) c.in-TotalStoreOrder.is c.requires

pub put_found-requires : goal.put_found-requires
put_found-requires c =
    let out = c.args.out.now in
    (omega arith, (c.first_failing.ensures.first.0, subst (λ (m : Model). (model_of m).need ≤ length out) c.in-Sequential.is (subst (λ (n : ℕ). n ≤ length out) c.width.ensures c.if-out-width.false)))

pub returns-in-Sequential : goal.returns-in-Sequential
returns-in-Sequential c =
    let args = c.args in
    let p = program_of args.program in
    let found = c.first_failing.ensures in
    let put = c.put_found.ensures in
    let long = subst (λ (n : ℕ). n ≤ length args.out.now) c.width.ensures c.if-out-width.false in
    let first = found.first.1 ∙ ap (λ (m : Model). head_of (sought (model_of m) true p)) (sym c.in-Sequential.is) in
    let e = first_put (model_of args.model) p args.out.now args.scratch.now long _ first _ _ _ put.length put.output found.zeros in
    record { answer = e.0; output = e.1; later = e.2 }

pub put_found-requires-in-TotalStoreOrder : goal.put_found-requires-in-TotalStoreOrder
put_found-requires-in-TotalStoreOrder c =
    let out = c.args.out.now in
    let room : 48 ≤ length out = subst (λ (m : Model). (model_of m).need ≤ length out) c.in-TotalStoreOrder.is (subst (λ (n : ℕ). n ≤ length out) c.width.ensures c.if-out-width.false) in
    (omega arith, (c.first_failing-in-TotalStoreOrder.ensures.first.0, omega arith))

pub returns-in-TotalStoreOrder : goal.returns-in-TotalStoreOrder
returns-in-TotalStoreOrder c =
    let args = c.args in
    let p = program_of args.program in
    let found = c.first_failing-in-TotalStoreOrder.ensures in
    let put = c.put_found-in-TotalStoreOrder.ensures in
    let long = subst (λ (n : ℕ). n ≤ length args.out.now) c.width.ensures c.if-out-width.false in
    let first = found.first.1 ∙ ap (λ (m : Model). head_of (sought (model_of m) true p)) (sym c.in-TotalStoreOrder.is) in
    let e = first_put (model_of args.model) p args.out.now args.scratch.now long _ first _ _ _ put.length put.output found.zeros in
    record { answer = e.0; output = e.1; later = e.2 }
