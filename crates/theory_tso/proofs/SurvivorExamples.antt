-- R2 far computed on small programs, and what the search finds: the same as the list.
use Prim.Native.Nat.{ℕ}
use mathlib.Core.Path.{◌≡◌, refl}
use mathlib.Core.Bool.{true, false, ◌||◌}
use mathlib.Core.Option.{none}
use mathlib.Core.List.{List, [], ◌∷◌, ◌++◌}
use Rattle.spec_file.specs.Program.{Program, zeros}
use Rattle.spec_file.specs.declared.instruction.Operand.TheVariants.{Constant}
use Rattle.spec_file.specs.declared.instruction.Access.TheVariants.{Store, Load}
use Rattle.spec_file.specs.declared.instruction.Instruction.TheVariants.{Memory}
use Rattle.spec_schedules.specs.Lists.{range, any}
use Rattle.spec_schedules.specs.Order.{Schedule}
use Rattle.theory_search.specs.ModelSearch.{looked_for}
use Rattle.spec_tso.specs.Graph.{end_of}
use Rattle.spec_tso.specs.State.{TSO, step}
use Rattle.spec_tso.specs.Actions.{action}
use Rattle.theory_tso.specs.Rules.{late, taken, twin, asleep}
use Rattle.theory_tso.proofs.Examples.{sleeps, pair, own}
use Rattle.theory_tso.specs.Far.{twin_moves, starts_by, starts, far}
use Rattle.theory_tso.specs.Search.{found, given_up}

-- what a proof names on its `unfolding` line to compute with every definition of the search
unfoldable finds : Program → List Schedule
unfolding sleeps twin_moves starts_by starts far looked_for found given_up
finds p = found given_up false p none

-- a store and a load in each of two threads: the search finds the four that are listed
pair_found : finds pair ≡
    (0 ∷ 0 ∷ 1 ∷ 1 ∷ 16 ∷ 17 ∷ []) ∷
    (0 ∷ 0 ∷ 1 ∷ 16 ∷ 1 ∷ 17 ∷ []) ∷
    (0 ∷ 1 ∷ 1 ∷ 16 ∷ 17 ∷ 0 ∷ []) ∷
    (0 ∷ 1 ∷ 16 ∷ 1 ∷ 17 ∷ 0 ∷ []) ∷ []
unfolding finds pair
pair_found = refl

-- two threads declared alike that have both read their own pending store: 11 need not go before 10
given_up_17 : given_up own (0 ∷ 0 ∷ 1 ∷ 1 ∷ []) (end_of own (0 ∷ 0 ∷ 1 ∷ 1 ∷ [])) 17 ≡ true
unfolding finds own
given_up_17 = refl

kept_16 : given_up own (0 ∷ 0 ∷ 1 ∷ 1 ∷ []) (end_of own (0 ∷ 0 ∷ 1 ∷ 1 ∷ [])) 16 ≡ false
unfolding finds own
kept_16 = refl

own_found : finds own ≡ (0 ∷ 0 ∷ 1 ∷ 1 ∷ 16 ∷ 17 ∷ []) ∷ (0 ∷ 0 ∷ 1 ∷ 17 ∷ 16 ∷ 1 ∷ []) ∷ []
unfolding finds own
own_found = refl

-- threads 0 and 2 alike, each a store of location 0 and a load of location 1; thread 1 stores location 1 twice
between : Program
between = record {
  threads =
      (Memory (Store 0 (Constant 1)) ∷ Memory (Load 0 1) ∷ [])
      ∷ (Memory (Store 1 (Constant 1)) ∷ Memory (Store 1 (Constant 2)) ∷ [])
      ∷ (Memory (Store 0 (Constant 1)) ∷ Memory (Load 0 1) ∷ []) ∷ [];
  groups = (0 ∷ 2 ∷ []) ∷ [];
  starting = zeros;
}

-- behind 00 01 01 02 11 00 11 02 neither R1 nor R2 nor R3 gives up thread 2's move, though 00 01 01 02 10 .. is alike and smaller
late_twin : Schedule
late_twin = 0 ∷ 1 ∷ 1 ∷ 2 ∷ 17 ∷ 0 ∷ 17 ∷ 2 ∷ []

kept_without : (late (taken between late_twin) (action (end_of between late_twin) 18) || (any (twin between (end_of between late_twin) 2) (range 0 2)
    || any (asleep between (late_twin ++ (18 ∷ [])) (step (end_of between late_twin) 18)) TSO.names)) ≡ false
unfolding finds between late_twin
kept_without = refl

-- R2 far gives it up: at 00 01 01 02 threads 0 and 2 were twins, and 11 was taken, which is greater than 10
far_18 : far between late_twin (end_of between late_twin) 18 ≡ true
unfolding finds between late_twin
far_18 = refl

-- what the search finds there is what is listed
between_found : finds between ≡
    (0 ∷ 0 ∷ 1 ∷ 1 ∷ 2 ∷ 2 ∷ 16 ∷ 17 ∷ 17 ∷ 18 ∷ []) ∷
    (0 ∷ 0 ∷ 1 ∷ 1 ∷ 2 ∷ 16 ∷ 17 ∷ 2 ∷ 17 ∷ 18 ∷ []) ∷
    (0 ∷ 0 ∷ 1 ∷ 1 ∷ 2 ∷ 16 ∷ 17 ∷ 17 ∷ 2 ∷ 18 ∷ []) ∷
    (0 ∷ 0 ∷ 1 ∷ 1 ∷ 2 ∷ 17 ∷ 2 ∷ 17 ∷ 18 ∷ 16 ∷ []) ∷
    (0 ∷ 0 ∷ 1 ∷ 1 ∷ 2 ∷ 17 ∷ 17 ∷ 2 ∷ 18 ∷ 16 ∷ []) ∷
    (0 ∷ 1 ∷ 1 ∷ 2 ∷ 16 ∷ 17 ∷ 0 ∷ 2 ∷ 17 ∷ 18 ∷ []) ∷
    (0 ∷ 1 ∷ 1 ∷ 2 ∷ 16 ∷ 17 ∷ 0 ∷ 17 ∷ 2 ∷ 18 ∷ []) ∷
    (0 ∷ 1 ∷ 1 ∷ 2 ∷ 16 ∷ 17 ∷ 2 ∷ 17 ∷ 0 ∷ 18 ∷ []) ∷
    (0 ∷ 1 ∷ 1 ∷ 2 ∷ 16 ∷ 17 ∷ 17 ∷ 0 ∷ 2 ∷ 18 ∷ []) ∷ []
unfolding finds between
between_found = refl

-- threads 1 and 2 alike, as those; thread 0 stores location 1 twice
before : Program
before = record {
  threads =
      (Memory (Store 1 (Constant 1)) ∷ Memory (Store 1 (Constant 2)) ∷ [])
      ∷ (Memory (Store 0 (Constant 1)) ∷ Memory (Load 0 1) ∷ [])
      ∷ (Memory (Store 0 (Constant 1)) ∷ Memory (Load 0 1) ∷ []) ∷ [];
  groups = (1 ∷ 2 ∷ []) ∷ [];
  starting = zeros;
}

-- a schedule in which thread 2's move stays: at 00 00 01 02 threads 1 and 2 were twins too, but 10 was taken, which is smaller than 11
lower : Schedule
lower = 0 ∷ 0 ∷ 1 ∷ 2 ∷ 16 ∷ 1 ∷ 16 ∷ 2 ∷ []

kept_18 : given_up before lower (end_of before lower) 18 ≡ false
unfolding finds before lower
kept_18 = refl
