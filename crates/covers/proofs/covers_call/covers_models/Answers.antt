-- `covers_models` looks at the two bytes, and compares under the models that they name.
use Rattle.std.proofs.Common.{rules, ◌≡◌, ◌∙◌, arith, sym}
use Rattle.std.specs.Prelude.{Some, None}
use Rattle.covers.specs.ModelBy.{model_by}
use Rattle.covers.specs.declared.covers_call.CoversRefusal.TheVariants.{Output}
use Rattle.covers.proofs.Mapped.{same_err}
use Rattle.covers.proofs.Called.{refused_reply, models_49, models_49_1, models_on}
use Rattle.covers.proofs.covers_call.covers_models.Goals as goal

pub returns-in_err-m : goal.returns-in_err-m
returns-in_err-m c =
    let a = c.args in
    let none : c.model_of_byte.result ≡ None = grind arith in
    let err = rw none at c.ok_or.ensures.value in
    let is = same_err _ _ _ c.in_err-m.was err in
    let reply : c.from_residual.result ≡ refused_reply (Output (record { number = 49; place = 0 })) = search rules in
    let whole = models_49 a.model a.first.now a.other a.second.now a.out.now a.scratch.now (sym c.model_of_byte.ensures ∙ none) in
    (whole.0, whole.1, reply ∙ whole.2, whole.3, whole.4)

pub returns-in_err-n : goal.returns-in_err-n
returns-in_err-n c =
    let a = c.args in
    let m : model_by a.model ≡ Some c.in_ok-m.m = grind arith in
    let none : c.model_of_byte-2.result ≡ None = grind arith in
    let err = rw none at c.ok_or-2.ensures.value in
    let is = same_err _ _ _ c.in_err-n.was err in
    let reply : c.from_residual-in_err-n.result ≡ refused_reply (Output (record { number = 49; place = 1 })) = search rules in
    let whole = models_49_1 a.model a.first.now a.other a.second.now a.out.now a.scratch.now c.in_ok-m.m m (sym c.model_of_byte-2.ensures ∙ none) in
    (whole.0, whole.1, reply ∙ whole.2, whole.3, whole.4)

pub returns : goal.returns
returns c =
    let a = c.args in
    let m : model_by a.model ≡ Some c.in_ok-m.m = grind arith in
    let n : model_by a.other ≡ Some c.in_ok-n.n = grind arith in
    let r = c.compared.ensures in
    models_on a.model a.first.now a.other a.second.now a.out.now a.scratch.now c.in_ok-m.m c.in_ok-n.n m n _ _ _ (record { answer = r.answer; output = r.output; scratch = r.scratch })
