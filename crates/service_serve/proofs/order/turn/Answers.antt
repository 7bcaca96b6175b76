-- `turn` turns away first, then chooses.
use Rattle.std.proofs.Common.{inl, inr, Err, refl, sym, ap, ◌∙◌, arith}
use Rattle.service_serve.proofs.Choosing.{chosen_some, chosen_nobody, turned_22, turned_idle, turned_to}
use Rattle.service_serve.proofs.order.turn.Goals.{then-n-ne4-via-then-n-ne4, then-n-ne4-via-else-n-ne4+then-room-lt-STEPS}
use Rattle.service_serve.proofs.order.turn.Goals as goal

pub returns-then-n-ne4 : goal.returns-then-n-ne4
returns-then-n-ne4 c cs out n room which =
    let t = turned_22 cs c.args.last.now out (elim c.then-n-ne4.branch [ then-n-ne4-via-then-n-ne4 w ↦ inl (λ e. w.if-n-ne4.true (sym n ∙ e)) | then-n-ne4-via-else-n-ne4+then-room-lt-STEPS w ↦ inr (omega (arith, room, w.if-room-lt-STEPS.true)) ]) in
    (ap Err c.by_number.ensures ∙ t.0, t.1)

pub returns-in_default : goal.returns-in_default
returns-in_default c cs out n room which =
    let x = c.args in
    let four = n ∙ c.if-n-ne4.false in
    turned_idle cs x.last.now out four (omega (arith, room, c.if-room-lt-STEPS.false))
    (chosen_nobody cs x.asking.now four which x.last.now c.next_asking.result c.next_asking.ensures c.in_default.is) _ c.settle.ensures

pub returns : goal.returns
returns c cs out n room which =
    let x = c.args in
    let four = n ∙ c.if-n-ne4.false in
    turned_to cs x.last.now out four (omega (arith, room, c.if-room-lt-STEPS.false)) c.in-Some.k
    (chosen_some cs x.asking.now four which x.last.now c.next_asking.result c.next_asking.ensures c.in-Some.k c.in-Some.is) _ refl
