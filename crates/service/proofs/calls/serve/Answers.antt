-- Whose turn it is and what its core says of its record, put back where it stood, is what the call says of the list.
use Rattle.std.proofs.Common.{◌≡◌, Bool, [], ◌∷◌, Ok, Err, Some, None, refl, sym, subst, ap, ◌∙◌, rules}
use Rattle.std.specs.Prelude.{Result}
use Rattle.spec_file.specs.declared.refusal.Refusal.{Refusal}
use Rattle.spec_service.specs.declared.caller.Caller.{Caller}
use Rattle.spec_service.specs.declared.reply.Reply.{Reply}
use Rattle.spec_service.specs.Seat.{asks}
use Rattle.spec_service.specs.Record.{reading}
use Rattle.spec_service.specs.Reply.{shared, Served}
use Rattle.service_serve.specs.Turn.{Leaves}
use Rattle.service.proofs.Doing.{serve_refused, serve_idle, serve_taken}
use Rattle.service.proofs.calls.serve.Goals as goal

pub returns-in_err-k : goal.returns-in_err-k
returns-in_err-k c =
    let x = c.args in
    let cs = x.callers.now in
    let t = c.turn.ensures cs x.out.now refl refl (λ i. c.asks_at.ensures i ∷ c.asks_at-2.ensures i ∷ c.asks_at-3.ensures i ∷ c.asks_at-4.ensures i ∷ []) in
    let r = c.in_err-k.field-0.0 in
    let e : c.from_residual.result ≡ Err r = search rules in
    subst (λ (v : Result Reply Refusal). Served x.out.now (shared cs x.last.now) v (shared cs c.turn.new.last) x.out.now) (sym e)
    (serve_refused cs x.last.now x.out.now r c.turn.new.last (sym c.in_err-k.was ∙ t.0) t.1)

pub returns-in_default : goal.returns-in_default
returns-in_default c =
    let x = c.args in
    let cs = x.callers.now in
    let t = c.turn.ensures cs x.out.now refl refl (λ i. c.asks_at.ensures i ∷ c.asks_at-2.ensures i ∷ c.asks_at-3.ensures i ∷ c.asks_at-4.ensures i ∷ []) in
    let g : c.turn.result ≡ Ok None = c.in_ok-k.was ∙ ap Ok c.in_default.is in
    serve_idle cs x.last.now x.out.now c.turn.new.last (sym g ∙ t.0) t.1

pub returns-in_err-reply : goal.returns-in_err-reply
returns-in_err-reply c =
    let x = c.args in
    let cs = x.callers.now in
    let t = c.turn.ensures cs x.out.now refl refl (λ i. c.asks_at.ensures i ∷ c.asks_at-2.ensures i ∷ c.asks_at-3.ensures i ∷ c.asks_at-4.ensures i ∷ []) in
    let g : c.turn.result ≡ Ok (Some c.in-Some.k) = c.in_ok-k.was ∙ ap Ok c.in-Some.is in
    let l = c.serve_one.ensures cs x.last.now c.record_at-left.ensures (sym g ∙ t.0) in
    absurd (subst (λ (v : _). Leaves cs x.last.now x.out.now c.in-Some.k v c.serve_one.new.c c.serve_one.new.out) c.in_err-reply.was l)

pub returns : goal.returns
returns c =
    let x = c.args in
    let cs = x.callers.now in
    let t = c.turn.ensures cs x.out.now refl refl (λ i. c.asks_at.ensures i ∷ c.asks_at-2.ensures i ∷ c.asks_at-3.ensures i ∷ c.asks_at-4.ensures i ∷ []) in
    let g : c.turn.result ≡ Ok (Some c.in-Some.k) = c.in_ok-k.was ∙ ap Ok c.in-Some.is in
    let l = c.serve_one.ensures cs x.last.now c.record_at-left.ensures (sym g ∙ t.0) in
    serve_taken cs x.last.now x.out.now c.in-Some.k c.serve_one.new.c c.in_ok-reply.reply c.turn.new.last c.serve_one.new.out
    (subst (λ (v : _). Leaves cs x.last.now x.out.now c.in-Some.k v c.serve_one.new.c c.serve_one.new.out) c.in_ok-reply.was l) t.1 _ c.put_record.ensures
