-- What there is for a record as the code hands it on: none, or how many steps the schedule has, and its steps with zeros behind.
use Rattle.std.specs.Prelude.{◌≤◌, length, replicate, Option, Some, None}
use Rattle.std.proofs.Math.Option as Math
use Rattle.spec_file.specs.Over.{over}
use Rattle.spec_schedules.specs.Order.{Schedule}
use Rattle.spec_schedules.specs.Calls.{Answer, found, nomore, refused}
use Rattle.service_record.specs.declared.next.Next.{Next}

unfoldable pub next_of : Math.Option Schedule → Option Next
next_of (Math.some s) = Some (record { steps = length s; schedule = over s (replicate 24 0) })
next_of Math.none = None

-- the schedule that a call of the listing gave
unfoldable pub found_in : Answer → Math.Option Schedule
found_in (found s) = Math.some s
found_in nomore = Math.none
found_in (refused n k) = Math.none

-- it has at most 24 steps
abbrev pub Short : Answer → Type 0
Short (found s) = length s ≤ 24
Short nomore = Unit {0}
Short (refused n k) = Unit {0}
