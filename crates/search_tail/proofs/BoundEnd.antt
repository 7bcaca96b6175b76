-- A run that has ended: along the bound nothing is found behind it, apart from the bound what is found without one.
use Prim.Native.Nat.{ℕ}
use mathlib.Core.Path.{◌≡◌, refl}
use mathlib.Core.Bool.{Bool, true, false}
use mathlib.Core.Option.{none}
use mathlib.Core.List.{List, []}
use lib.ListN.{drop}
use Rattle.spec_file.specs.Program.{Program}
use Rattle.spec_schedules.specs.Order.{Schedule}
use Rattle.spec_schedules.specs.System.{ended}
use Rattle.spec_sc.specs.State.{SC}
use Rattle.spec_sc.specs.Graph.{end_of}
use Rattle.theory_sc.specs.Search.{found_behind}
use Rattle.theory_sc.proofs.Search.{behind_bound}
use Rattle.listing_cursor.specs.Bounds.{bound_at}

-- the run has ended, along the bound
pub bound_met : (failures : Bool) (p : Program) (steps : ℕ) (v : Schedule) (b : List ℕ) → ended SC (end_of p v) ≡ true
    → found_behind failures p steps (bound_at true b steps) v ≡ []
unfolding bound_at
bound_met failures p steps v b e = behind_bound failures p steps v (drop steps b) e

-- apart from it
pub bound_apart : (failures : Bool) (p : Program) (steps : ℕ) (v : Schedule) (b : List ℕ) → found_behind failures p steps (bound_at false b steps) v ≡ found_behind failures p steps none v
unfolding bound_at
bound_apart failures p steps v b = refl
