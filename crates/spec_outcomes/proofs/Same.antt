-- A schedule with an outcome passes the test of it.
use mathlib.Core.Path.{◌≡◌}
use mathlib.Core.Bool.{true}
use Rattle.spec_file.specs.Program.{Program}
use Rattle.spec_schedules.specs.Order.{Schedule}
use Rattle.spec_model.specs.Model.{Model}
use Rattle.spec_covers.specs.declared.outcome.Outcome.{Outcome}
use Rattle.spec_across.specs.Under.{outcome_under}
use Rattle.spec_across.proofs.SameOutcome.{is_same}
use Rattle.spec_across.specs.Same.{comes_to}

pub is_comes : (M : Model) (p : Program) (o : Outcome) (s : Schedule) → outcome_under M p s ≡ o → comes_to M p o s ≡ true
unfolding comes_to
is_comes M p o s e = is_same (outcome_under M p s) o e
