-- What a caller's record reads as: closed, or open with a program, a place in its list, and whether it asks.
use Rattle.std.specs.Prelude.{Bool, true, false, List, []}
use Rattle.std.proofs.Math.Option.{some}
use Rattle.spec_file.specs.Program.{Program}
use Rattle.spec_schedules.specs.Order.{Schedule}
use Rattle.spec_schedules.specs.Found.{after}
use Rattle.spec_model.specs.Alike.{list_of}
use Rattle.spec_sc.specs.Sequential.{sc}

-- a place in a program's list: the beginning, behind a full schedule, or the end
pub data Place : Type 0 where
  beginning : Place
  behind : Schedule → Place
  end : Place

pub data Seat : Type 0 where
  closed : Seat
  active : Program → Place → Bool → Seat

-- what of the program's list is yet to come
unfoldable pub to_come : Program → Place → List Schedule
to_come p beginning = list_of sc p
to_come p (behind s) = after (some s) (list_of sc p)
to_come p end = []

-- whether somebody is there, and whether a schedule is asked for
unfoldable pub is_open : Seat → Bool
is_open closed = false
is_open (active p x a) = true

unfoldable pub asks : Seat → Bool
asks closed = false
asks (active p x a) = a
