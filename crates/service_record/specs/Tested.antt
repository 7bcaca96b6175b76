-- The tests that the code makes of a record, on what `spec_service` reads it as.
use Rattle.std.specs.Prelude.{Bool, true, false}
use Rattle.std.proofs.Math.Option.{Option, none, some}
use Rattle.spec_sc.specs.Replay.{Replayed, whole, refused}
use Rattle.spec_service.specs.Seat.{Place}

-- whether a schedule that comes to this is full
unfoldable pub is_whole : Replayed → Bool
is_whole (whole σ) = true
is_whole (refused n k) = false

-- whether there is a place
unfoldable pub is_place : Option Place → Bool
is_place none = false
is_place (some x) = true
