-- A schedule that a search answers, in fixed memory, or none.
use Rattle.std.specs.Prelude.{ℕ, ◌≤◌, take, Option, Some, None}
use Rattle.std.proofs.Math.Option as Math
use Rattle.spec_schedules.specs.Order.{Schedule}
use Rattle.listing_cursor.specs.declared.steps.Steps.{Steps}

-- the schedule that stands in fixed memory
abbrev pub steps_of : {N : ℕ} → Steps N → Schedule
steps_of s = take s.steps s.schedule

-- what a search answers: this schedule, or none
abbrev pub found_of : {N : ℕ} → Option (Steps N) → Math.Option Schedule
found_of (Some s) = Math.some (steps_of s)
found_of None = Math.none

-- a schedule that is answered is no longer than its memory
abbrev pub Short : {N : ℕ} → Option (Steps N) → Type 0
Short {N} (Some s) = s.steps ≤ N
Short None = Unit
