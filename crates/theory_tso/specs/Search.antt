-- THE SEARCH under total store order: the model's, by R1, R2, R3 and R2 far. The law says that it finds what the list has above the bound,
-- or those of it that fail.
use Rattle.std.specs.Prelude.{ℕ, Bool, ◌||◌, List, [], ◌∷◌, ◌++◌}
use Rattle.std.proofs.Math.Option.{Option}
use Rattle.spec_file.specs.Program.{Program}
use Rattle.spec_schedules.specs.Lists.{range, any}
use Rattle.spec_schedules.specs.Order.{Schedule}
use Rattle.theory_search.specs.ModelSearch as Model
use Rattle.spec_tso.specs.State.{State, TSO, owner, step}
use Rattle.spec_tso.specs.Actions.{action}
use Rattle.spec_tso.specs.TotalStoreOrder.{tso}
use Rattle.theory_tso.specs.Rules.{late, taken, twin, asleep}
use Rattle.theory_tso.specs.Far.{far}

-- a step of b behind v, which led to σ, is given up: it is late (R1), its thread has a smaller twin (R2), it leaves some byte asleep for
-- good (R3), or it is a move that could have been a smaller twin's at an earlier place (R2 far)
unfoldable pub given_up : Program → Schedule → State → ℕ → Bool
given_up p v σ b =
    late (taken p v) (action σ b)
    || (any (twin p σ (owner b)) (range 0 (owner b)) || (any (asleep p (v ++ (b ∷ [])) (step σ b)) TSO.names || far p v σ b))

-- all that is found behind the prefix v, of so many steps, above what is left of the bound
abbrev pub found_behind : (Program → Model.Rule tso) → Bool → Program → ℕ → Option Schedule → Schedule → List Schedule
found_behind = Model.found_behind tso

-- all that is found behind the prefix v with b as the next step
abbrev pub found_with : (Program → Model.Rule tso) → Bool → Program → ℕ → Option Schedule → Schedule → ℕ → List Schedule
found_with = Model.found_with tso

-- all that is found above the bound, or all where there is no bound
unfoldable pub found : (Program → Model.Rule tso) → Bool → Program → Option Schedule → List Schedule
found = Model.found tso
