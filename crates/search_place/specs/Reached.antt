-- A prefix of a run as the search holds it: the program in its rows and classes, the machine behind the prefix, its steps, and what the
-- rules carry from step to step. The search keeps no last writes: the machine is held with some.
use Rattle.std.specs.Prelude.{ℕ, ◌≡◌, List, length, take}
use Rattle.spec_file.specs.Program.{Program}
use Rattle.spec_schedules.specs.Order.{Schedule}
use Rattle.spec_schedules.specs.System.{Allowed}
use Rattle.spec_sc.specs.State.{SC, enabled, start}
use Rattle.spec_sc.specs.Graph.{end_of}
use Rattle.machine.specs.Held.{Holds, Loaded}
use Rattle.machine.specs.declared.state.LastWrite.{LastWrite}
use Rattle.machine.specs.declared.state.Machine.{Machine}
use Rattle.theory_sc.specs.Sets.{set_of}
use Rattle.theory_sc.specs.LateSet.{late_set}
use Rattle.theory_sc.specs.ReadWords.{words_of}
use Rattle.search_place.specs.ClassGroups.{Lined}
use Rattle.search_place.specs.declared.place.Place.{Place}

-- the machine at a place, with these last writes
abbrev pub machine_of : Place → List LastWrite → Machine
machine_of x last = record { threads = x.threads; memory = x.memory; last = last }

-- the steps of v lead the program p to this place
pub record Reached (code lengths class : List ℕ) (threads groups : ℕ) (x : Place) (p : Program) (v : Schedule) : Type 0 where
  pub loaded : Loaded code lengths threads p
  pub lines : Lined class groups p
  pub allowed : Allowed SC (start p) v
  pub last : List LastWrite
  pub holds : Holds code lengths (machine_of x last) (end_of p v)
  pub counted : length v ≡ x.steps
  pub schedule : take x.steps x.schedule ≡ v
  pub late : x.late ≡ late_set p v
  pub live : x.live ≡ set_of (enabled (end_of p v)) 6
  pub stamps : x.stamps ≡ (words_of p v).stamps
  pub words : x.words ≡ (words_of p v).words
