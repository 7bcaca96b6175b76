-- The list of a step system: of each class of full schedules that are alike, the least. `like` says whether one full schedule is alike to
-- another; a full schedule is listed if no smaller one is alike to it.
use mathlib.Core.Path.{◌≡◌}
use mathlib.Core.Bool.{Bool, true, false}
use Rattle.spec_schedules.specs.Order.{Schedule, less}
use Rattle.spec_schedules.specs.System.{System, FullFrom}

-- full, and no smaller full schedule is alike to it
abbrev pub Listed : (M : System) → M.State → (Schedule → Schedule → Bool) → Schedule → Type 0
Listed M ρ like s = FullFrom M ρ s × ((r : Schedule) → FullFrom M ρ r → less r s ≡ true → like r s ≡ false)

-- a smaller full schedule that is alike: what every cut of a search must show
abbrev pub Smaller : (M : System) → M.State → (Schedule → Schedule → Bool) → Schedule → Type 0
Smaller M ρ like s = (r : Schedule) × FullFrom M ρ r × (less r s ≡ true) × (like r s ≡ true)
