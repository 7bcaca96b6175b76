-- Whether two outcomes are the same, as a test: value by value, then whether something failed; and whether a schedule has an outcome.
use Rattle.std.specs.Prelude.{Bool, not, ◌&&◌, cond, eqb}
use Rattle.spec_file.specs.Lists.{same_list}
use Rattle.spec_file.specs.Program.{Program}
use Rattle.spec_schedules.specs.Order.{Schedule}
use Rattle.spec_model.specs.Model.{Model}
use Rattle.spec_covers.specs.declared.outcome.Outcome.{Outcome}
use Rattle.spec_across.specs.Under.{outcome_under}

unfoldable pub same_outcome : Outcome → Outcome → Bool
same_outcome a b = same_list eqb a.memory b.memory && cond a.fails b.fails (not b.fails)

-- whether s has this outcome
unfoldable pub comes_to : (M : Model) → Program → Outcome → Schedule → Bool
comes_to M p o s = same_outcome (outcome_under M p s) o
