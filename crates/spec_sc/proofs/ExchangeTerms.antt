-- A schedule with its threads exchanged.
use Prim.Native.Nat.{ℕ}
use mathlib.Core.List.{map}
use Rattle.spec_schedules.specs.Order.{Schedule}

unfoldable pub moved_schedule : (ℕ → ℕ) → Schedule → Schedule
moved_schedule π s = map π s
