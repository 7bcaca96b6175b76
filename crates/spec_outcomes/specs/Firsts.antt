-- THE OUTCOMES OF A PROGRAM, each by the first listed schedule that has it, in any memory model.
use Rattle.std.specs.Prelude.{Bool, not, List}
use Rattle.spec_file.specs.Program.{Program}
use Rattle.spec_schedules.specs.Lists.{both, any, filter}
use Rattle.spec_schedules.specs.Order.{Schedule, less}
use Rattle.spec_model.specs.Model.{Model}
use Rattle.spec_model.specs.Alike.{list_of}
use Rattle.spec_across.specs.Under.{outcome_under}
use Rattle.spec_across.specs.Same.{comes_to}

module _ (M : Model) (p : Program) where
  -- whether no smaller listed schedule has the outcome of s
  unfoldable pub is_first : Schedule → Bool
  is_first s = not (any (λ r. both (less r s) (comes_to M p (outcome_under M p s) r)) (list_of M p))

  -- of the list those whose outcome no smaller listed schedule has
  unfoldable pub firsts_of : List Schedule
  firsts_of = filter is_first (list_of M p)
