-- THE SEARCH under sequential consistency: the model's, by R1, R2 and R3. The law says that it finds what the list has above the bound, or
-- those of it that fail.
use Rattle.std.specs.Prelude.{ℕ, Bool, not, ◌||◌, List, [], ◌∷◌, ◌++◌, eqb}
use Rattle.std.proofs.Math.Option.{Option}
use Rattle.spec_file.specs.Program.{Program}
use Rattle.spec_schedules.specs.Lists.{range, any}
use Rattle.spec_schedules.specs.Order.{Schedule}
use Rattle.theory_search.specs.ModelSearch as Model
use Rattle.spec_sc.specs.State.{State, step}
use Rattle.spec_sc.specs.Sequential.{sc}
use Rattle.theory_sc.specs.Rules.{twin}
use Rattle.spec_schedules.specs.Sets.{has}
use Rattle.theory_sc.specs.LateSet.{late_set}
use Rattle.theory_sc.specs.Sleepers.{sleepers}

-- a step of t behind v, which led to σ, is given up: t is late (R1), or has a smaller twin (R2), or some are asleep for good behind it (R3)
unfoldable pub given_up : Program → Schedule → State → ℕ → Bool
given_up p v σ t = has (late_set p v) t || (any (twin p σ t) (range 0 t) || not (eqb (sleepers (step σ t) (late_set p (v ++ (t ∷ [])))) 0))

-- all that is found behind the prefix v, of so many steps, above what is left of the bound
abbrev pub found_behind : Bool → Program → ℕ → Option Schedule → Schedule → List Schedule
found_behind = Model.found_behind sc given_up

-- all that is found behind the prefix v with t as the next step
abbrev pub found_with : Bool → Program → ℕ → Option Schedule → Schedule → ℕ → List Schedule
found_with = Model.found_with sc given_up

-- all that is found above the bound, or all where there is no bound
unfoldable pub found : Bool → Program → Option Schedule → List Schedule
found = Model.found sc given_up
