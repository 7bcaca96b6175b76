-- A prefix of a run as the walk by states holds it: what the search holds, and the ways of the threads.
use Rattle.std.specs.Prelude.{ℕ, ◌≡◌, List}
use Rattle.spec_file.specs.Program.{Program}
use Rattle.spec_schedules.specs.Order.{Schedule}
use Rattle.search_place.specs.Reached.{Reached}
use Rattle.theory_sc.specs.ReadWords.{Words}
use Rattle.theory_sc_key.specs.Ways.{ways_of}
use Rattle.states_key.specs.declared.spot.Spot.{Spot}

-- the words that it carries
abbrev pub carried : Spot → Words
carried x = record { stamps = x.place.stamps; words = x.place.words }

-- the steps of v lead the program p to this spot
pub record Stands (code lengths class : List ℕ) (threads groups : ℕ) (x : Spot) (p : Program) (v : Schedule) : Type 0 where
  pub reached : Reached code lengths class threads groups x.place p v
  pub ways : x.ways ≡ ways_of p v
