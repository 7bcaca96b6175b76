-- Two runs and their least orders, computed.
use mathlib.Core.Path.{◌≡◌, refl}
use mathlib.Core.List.{[], ◌∷◌}
use Rattle.spec_schedules.specs.Lists.{find}
use Rattle.spec_schedules.specs.Greedy.{greedy}
use Rattle.spec_schedules.specs.Orders.{trace, next_of, clear, clear_of, ready, take_out}
use Rattle.theory_search.specs.Orders.{least_order}
use Rattle.spec_sc.specs.State.{start}
use Rattle.spec_sc.specs.Actions.{given, writes, action, who, conflict}
use Rattle.spec_sc.proofs.ActionTerms.{actions}
use Rattle.theory_search.specs.Actions.{least_of}
use Rattle.spec_sc.proofs.Examples.{seen, stores, pair}

-- the least order of a run's steps: a reader stays before the store that it did not see, and stores to different locations change places
least : least_of (actions (start stores) (2 ∷ 0 ∷ 1 ∷ [])) ≡ 2 ∷ 0 ∷ 1 ∷ []
unfolding seen stores trace action writes given who conflict least_order greedy find ready next_of clear clear_of take_out
least = refl

earlier : least_of (actions (start pair) (1 ∷ 0 ∷ 1 ∷ 0 ∷ [])) ≡ 0 ∷ 1 ∷ 0 ∷ 1 ∷ []
unfolding seen pair trace action writes given who conflict least_order greedy find ready next_of clear clear_of take_out
earlier = refl
