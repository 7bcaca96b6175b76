-- How the judge finds the values of the reads. Round after round every thread runs by itself on the values known so far, and each read is
-- given what its source then writes. Nothing promised rests on this: Rounds shows that it finds the values of every run with the graph.
use Prim.Native.Nat.{ℕ, zero, suc, ◌-◌}
use mathlib.Core.Bool.{true, false}
use mathlib.Core.Option.{Option, none, some}
use mathlib.Core.List.{List, [], ◌∷◌}
use lib.Dec.{eqb}
use lib.ListN.{get_or}
use Rattle.spec_file.specs.Program.{Program, initial}
use Rattle.spec_file.specs.WellFormed.{all_accesses}
use Rattle.spec_sc.specs.State.{Event, initial_write}
use Rattle.spec_sc.specs.Graph.{Graph}
use Rattle.spec_judge.specs.Consistent.{row_of, Values, location_of, out_of}
use Rattle.spec_sc.specs.Same.{same_event}

-- the source that a row gives to access i (the initial write, where it has no line)
unfoldable pub source_in : List (ℕ × Event) → ℕ → Event
source_in [] i = initial_write
source_in (r ∷ rs) i = elim (eqb r.0 i) [ true ↦ r.1 | false ↦ source_in rs i ]

unfoldable pub or_zero : Option ℕ → ℕ
or_zero none = 0
or_zero (some x) = x

-- what s leaves at location l on these values: what it writes, or what memory starts with
unfoldable pub left_by : Program → Values → Event → ℕ → ℕ
left_by p v s l = elim (same_event s initial_write) [ true ↦ get_or (initial p) l 0 | false ↦ or_zero (out_of p v s) ]

-- one round: each read gets what its source leaves on these values
unfoldable pub next_round : Program → Graph → Values → Values
next_round p g v e = left_by p v (source_in (row_of g e.0) e.1) (location_of p v e)

-- the values of round n
unfoldable pub values : Program → Graph → ℕ → Values
values p g zero e = 0
values p g (suc n) e = next_round p g (values p g n) e

-- the values of the last round. A full schedule has at most as many steps as the program has accesses, each round finds the value of one step
-- more, and where the last step goes does not depend on what it finds: a round fewer than there are accesses is enough
abbrev pub final_values : Program → Graph → Values
final_values p g = values p g (all_accesses p.threads - 1)
