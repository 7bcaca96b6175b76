-- `put_back` goes by whether the call was refused.
use Rattle.std.proofs.Common.{◌≡◌, Err, sym, subst, ◌∙◌, rules}
use Rattle.spec_service.specs.Reply.{shared, Does}
use Rattle.service_one.specs.Left.{Left}
use Rattle.service.proofs.Doing.{away, back}
use Rattle.service.proofs.calls.put_back.Goals as goal

pub returns-in_err-c : goal.returns-in_err-c
returns-in_err-c c call left =
    let x = c.args in
    let σ = shared x.callers.now x.last.now in
    let r = c.in_err-c.field-0.0 in
    let e : c.from_residual.result ≡ Err r = search rules in
    subst (λ (v : _). Does call σ v σ) (sym e) (away call x.callers.now x.last.now r (subst (Left call x.callers.now x.k) c.in_err-c.was left x.last.now))

pub returns : goal.returns
returns c call left =
    let x = c.args in
    let l = subst (Left call x.callers.now x.k) c.in_ok-c.was left x.last.now in
    back call x.callers.now x.last.now _ _ c.settle.ensures l.0 (c.put_record.ensures ∙ l.1)
