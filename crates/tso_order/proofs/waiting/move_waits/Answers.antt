-- `move_waits` asks one question after the other.
use Rattle.std.proofs.Common.{ne_eqb, ◌∙◌}
use Rattle.tso_order.proofs.Asked.{move_made, move_away, move_there}
use Rattle.tso_order.proofs.waiting.move_waits.Goals as goal

pub returns-then-makes : goal.returns-then-makes
returns-then-makes c = λ code lengths m σ held es ok. c.if-makes.true ∙ move_made code lengths m σ held c.args.u c.requires ok c.args.s es c.args.e _ c.makes.ensures c.if-makes.true

pub returns-then-e-s : goal.returns-then-e-s
returns-then-e-s c = λ code lengths m σ held es ok. c.touches.ensures ∙ move_there code lengths m σ held c.args.u c.requires ok c.args.s es c.args.e _ c.makes.ensures c.if-makes.false c.if-e-s.true

pub returns-else-e-s : goal.returns-else-e-s
returns-else-e-s c = λ code lengths m σ held es ok. ne_eqb _ _ c.if-e-s.false ∙ move_away code lengths m σ held c.args.u c.requires ok c.args.s es c.args.e _ c.makes.ensures c.if-makes.false c.if-e-s.false
