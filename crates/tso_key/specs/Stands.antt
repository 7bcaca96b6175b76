-- A prefix of a run as the walk by states holds it: the search's place, and the ways of its threads, as far as eight accesses go.
use Rattle.std.specs.Prelude.{ℕ, ◌%◌, ◌^◌, ◌<◌, ◌≡◌, List, get_or}
use Rattle.spec_file.specs.Program.{Program}
use Rattle.spec_schedules.specs.Order.{Schedule}
use Rattle.tso_place.specs.Reached.{Reached}
use Rattle.theory_tso_key.specs.Ways.{way_of}
use Rattle.tso_key.specs.declared.spot.Spot.{Spot}

pub record Stands (code lengths class : List ℕ) (threads groups : ℕ) (x : Spot) (p : Program) (v : Schedule) : Type 0 where
  pub reached : Reached code lengths class threads groups x.place p v
  pub ways : (t : ℕ) → t < 6 → get_or x.ways t 0 ≡ way_of p v t % 2 ^ 24
