-- The listed schedules of a step system: of each class the least.
use Rattle.std.specs.Prelude.{Bool, List}
use Rattle.spec_schedules.specs.Order.{Schedule}
use Rattle.spec_schedules.specs.System.{System}
use Rattle.spec_schedules.specs.Fulls.{fulls}
use Rattle.spec_schedules.specs.Classes.{firsts}

-- the listed schedules, ascending
unfoldable pub list_of : (M : System) → M.State → (Schedule → Schedule → Bool) → List Schedule
list_of M ρ like = firsts like (fulls M ρ)
