-- The list, in any memory model. Two full schedules are alike if some permitted exchange of threads turns one's graph into the other's; a
-- full schedule is listed if no smaller one is alike to it. `list_of` is the same, executable: of all full schedules in order those stay to
-- which no earlier one is alike.
use Rattle.std.specs.Prelude.{ℕ, ◌≡◌, Bool, true, List}
use Rattle.spec_file.specs.Program.{Program}
use Rattle.spec_schedules.specs.Lists.{any}
use Rattle.spec_schedules.specs.Order.{Schedule, less}
use Rattle.spec_schedules.specs.Listed as Schedules
use Rattle.spec_schedules.specs.Permutations.{moved}
use Rattle.spec_model.specs.Exchange.{Exchange, permitted}
use Rattle.spec_model.specs.Model.{Model, Full, graph}

module _ (M : Model) (p : Program) where
  abbrev pub Alike : Schedule → Schedule → Type 0
  Alike a b = (π : ℕ → ℕ) × Exchange p π × M.Renames π (graph M p a) (graph M p b)

  -- a smaller full schedule that is alike
  abbrev pub Smaller : Schedule → Type 0
  Smaller s = (r : Schedule) × Full M p r × (less r s ≡ true) × Alike r s

  abbrev pub Listed : Schedule → Type 0
  Listed s = Full M p s × (Smaller s → ⊥)

-- whether one of these permutations turns the first graph into the second
unfoldable pub alike_by : (M : Model) → List (List ℕ) → M.Graph → M.Graph → Bool
alike_by M πs g h = any (λ π. M.renames (moved π) g h) πs

-- the list
unfoldable pub list_of : (M : Model) → Program → List Schedule
list_of M p = let πs = permitted p in Schedules.list_of M.system (M.start p) (λ a b. alike_by M πs (graph M p a) (graph M p b))
