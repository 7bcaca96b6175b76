-- What a spot may stand for: a program and a prefix of a run of its, whose keys have at most so many words.
use Rattle.std.specs.Prelude.{ℕ, List}
use Rattle.spec_file.specs.Program.{Program}
use Rattle.spec_schedules.specs.Order.{Schedule}
use Rattle.theory_tso_key.specs.Words.{Wide}
use Rattle.tso_key.specs.Stands.{Stands}
use Rattle.tso_key.specs.declared.spot.Spot.{Spot}

pub record Position (code lengths class : List ℕ) (n : ℕ) (x : Spot) : Type 0 where
  pub threads : ℕ
  pub groups : ℕ
  pub program : Program
  pub prefix : Schedule
  pub stands : Stands code lengths class threads groups x program prefix
  pub wide : Wide n program
