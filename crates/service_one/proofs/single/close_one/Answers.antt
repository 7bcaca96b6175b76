-- `close_one` turns away first.
use Rattle.std.proofs.Common.{◌≡◌, Err, Ok, sym, subst, ◌∙◌, rules}
use Rattle.spec_service.specs.declared.caller.Caller.{Caller}
use Rattle.spec_service.specs.Call.{close_for}
use Rattle.service_one.specs.Left.{Left}
use Rattle.service_one.proofs.Doing.{close_refused, close_done}
use Rattle.service_one.proofs.single.close_one.Goals as goal

pub returns-in_err-open_refusal : goal.returns-in_err-open_refusal
returns-in_err-open_refusal c cs n q =
    let x = c.args in
    let e : c.from_residual.result ≡ Err c.in_err-open_refusal.field-0.0 = search rules in
    subst (Left (close_for x.k) cs x.k) (sym e) (close_refused cs x.k x.n x.c.now n q _ (sym c.open_refusal.ensures ∙ c.in_err-open_refusal.was))

pub returns : goal.returns
returns c cs n q =
    let x = c.args in
    subst (λ (r : Caller). Left (close_for x.k) cs x.k (Ok r)) (sym c.fresh_record.ensures) (close_done cs x.k x.n x.c.now n q _ (sym c.open_refusal.ensures ∙ c.in_ok-open_refusal.was))
