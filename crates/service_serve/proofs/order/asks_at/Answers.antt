-- `asks_at` reads a record that the list has; a fresh one is closed, and does not ask.
use Rattle.std.proofs.Common.{◌≡◌, false, refl, sym, ap, ◌∙◌}
use Rattle.std.proofs.lemmas.List.{get_or_past}
use Rattle.spec_service.specs.declared.caller.Caller.{Caller}
use Rattle.spec_service.specs.Seat.{asks, closed}
use Rattle.spec_service.specs.Record.{reading, fresh}
use Rattle.spec_service.proofs.Readings.{reading_fresh}
use Rattle.service_serve.proofs.order.asks_at.Goals as goal

quiet : false ≡ asks closed
unfolding asks
quiet = refl

pub returns : goal.returns
returns c = quiet ∙ ap asks (sym reading_fresh) ∙ ap (λ (r : Caller). asks (reading r)) (sym (get_or_past c.args.callers.now c.args.k fresh c.if-k-callers.false))
