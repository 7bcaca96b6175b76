-- A small step system, computed: two bytes, each with a number of steps left. The definitions give what one expects of them.
use mathlib.Core.Path.{◌≡◌, refl}
use mathlib.Core.Bool.{Bool, true, false}
use mathlib.Core.Option.{Option, none, some}
use mathlib.Core.List.{List, [], ◌∷◌}
use Prim.Native.Nat.{ℕ, ◌+◌, ◌-◌}
use lib.Dec.{eqb, ltb}
use lib.ListN.{get_or, set}
use Rattle.spec_schedules.specs.Order.{Schedule}
use Rattle.spec_schedules.specs.System.{System}
use Rattle.spec_schedules.specs.Fulls.{fulls}
use Rattle.spec_schedules.specs.Listed.{list_of}
use Rattle.spec_schedules.specs.Calls.{found, nomore, refused, due}
use Rattle.theory_search.specs.Found.{found_from}
use Rattle.spec_schedules.specs.Greedy.{greedy}
use Rattle.theory_search.specs.Orders.{least_order}
use Rattle.theory_search.specs.Computing.{computing}

abbrev total : List ℕ → ℕ
total [] = 0
total (n ∷ ns) = n + total ns

-- the state says how many steps are left to 0 and to 1
abbrev Two : System
Two = record { State = List ℕ; enabled = λ σ t. ltb 0 (get_or σ t 0); step = λ σ t. set σ t (get_or σ t 0 - 1); names = 0 ∷ 1 ∷ []; size = total }

-- all full schedules, ascending
fulls_two : fulls Two (2 ∷ 1 ∷ []) ≡ (0 ∷ 0 ∷ 1 ∷ []) ∷ (0 ∷ 1 ∷ 0 ∷ []) ∷ (1 ∷ 0 ∷ 0 ∷ []) ∷ []
unfolding computing
fulls_two = refl

-- alike if they end in the same byte: the least of each class
abbrev last_byte : Schedule → ℕ
last_byte [] = 2
last_byte (x ∷ []) = x
last_byte (x ∷ y ∷ s) = last_byte (y ∷ s)

abbrev alike : Schedule → Schedule → Bool
alike a b = eqb (last_byte a) (last_byte b)

listed_two : list_of Two (2 ∷ 1 ∷ []) alike ≡ (0 ∷ 0 ∷ 1 ∷ []) ∷ (0 ∷ 1 ∷ 0 ∷ []) ∷ []
unfolding computing
listed_two = refl

-- the search, with nothing cut and everything listed: all, and those after a bound, also after one that is not full
abbrev found_from_lem : Option Schedule → List Schedule
found_from_lem o = found_from Two 2 (λ v σ t. false) (λ s. true) 3 o [] (2 ∷ 1 ∷ [])

found_all : found_from_lem none ≡ (0 ∷ 0 ∷ 1 ∷ []) ∷ (0 ∷ 1 ∷ 0 ∷ []) ∷ (1 ∷ 0 ∷ 0 ∷ []) ∷ []
unfolding computing
found_all = refl

found_after : found_from_lem (some (0 ∷ 0 ∷ 1 ∷ [])) ≡ (0 ∷ 1 ∷ 0 ∷ []) ∷ (1 ∷ 0 ∷ 0 ∷ []) ∷ []
unfolding computing
found_after = refl

found_prefix : found_from_lem (some (0 ∷ 1 ∷ [])) ≡ (0 ∷ 1 ∷ 0 ∷ []) ∷ (1 ∷ 0 ∷ 0 ∷ []) ∷ []
unfolding computing
found_prefix = refl

found_end : found_from_lem (some (1 ∷ 0 ∷ 0 ∷ [])) ≡ []
unfolding computing
found_end = refl

-- four calls that need an output of 2 bytes: answered, refused, answered, no more
calls_two : due 2 ((0 ∷ []) ∷ (1 ∷ 1 ∷ []) ∷ []) ((7 ∷ 7 ∷ 7 ∷ []) ∷ (7 ∷ []) ∷ (7 ∷ 7 ∷ []) ∷ (7 ∷ 7 ∷ []) ∷ [])
    ≡ (found (0 ∷ []), 0 ∷ 7 ∷ 7 ∷ []) ∷ (refused 22 0, 7 ∷ []) ∷ (found (1 ∷ 1 ∷ []), 1 ∷ 1 ∷ []) ∷ (nomore, 7 ∷ 7 ∷ []) ∷ []
unfolding computing
calls_two = refl

-- the greedy walk, by whatever may step
greedy_two : greedy Two (λ σ t. ltb 0 (get_or σ t 0)) 3 (2 ∷ 1 ∷ []) ≡ 0 ∷ 0 ∷ 1 ∷ []
unfolding computing
greedy_two = refl

-- actions of 1, 0, 1, 0 of which only those of equal number depend on each other: the least order
abbrev byte_of : ℕ × ℕ → ℕ
byte_of d = d.0

abbrev same_number : ℕ × ℕ → ℕ × ℕ → Bool
same_number d e = eqb d.1 e.1

order_two : least_order byte_of same_number (0 ∷ 1 ∷ []) ((1, 5) ∷ (0, 6) ∷ (1, 7) ∷ (0, 5) ∷ []) ≡ 0 ∷ 1 ∷ 0 ∷ 1 ∷ []
unfolding computing
order_two = refl
