-- A prefix of a run as the search holds it: the program in its rows and classes, the machine behind the prefix, its steps, and what the
-- rules carry from step to step.
use Rattle.std.specs.Prelude.{ℕ, ◌<◌, ◌≤◌, ◌≡◌, List, length, get_or, take}
use Rattle.spec_file.specs.Program.{Program}
use Rattle.spec_file.specs.WellFormed.{all_accesses}
use Rattle.spec_schedules.specs.Order.{Schedule}
use Rattle.spec_schedules.specs.System.{Allowed}
use Rattle.machine.specs.Held.{Loaded}
use Rattle.search_place.specs.ClassGroups.{Lined}
use Rattle.spec_tso.specs.State.{TSO, access, move, enabled, start}
use Rattle.spec_tso.specs.Graph.{end_of}
use Rattle.tso_machine.specs.Held.{Holds}
use Rattle.tso_machine.specs.declared.state.QueuedMachine.{QueuedMachine}
use Rattle.theory_tso.specs.LateBytes.{bytes_of, late_at, far_at}
use Rattle.theory_tso.specs.ReadWords.{word_of}
use Rattle.tso_order.specs.declared.sets.Sets.{Sets}
use Rattle.tso_place.specs.declared.place.Place.{Place}

-- the machine at a place
abbrev pub machine_of : Place → QueuedMachine
machine_of x = record { threads = x.threads; memory = x.memory; last = x.last; heads = x.heads; tails = x.tails; slots = x.slots }

-- the sets behind the prefix v: who may access and who may move, whose access and whose move is late, whose move is far
pub record Carries (s : Sets) (p : Program) (v : Schedule) : Type 0 where
  pub live : s.live ≡ bytes_of (enabled (end_of p v)) access
  pub moving : s.moving ≡ bytes_of (enabled (end_of p v)) move
  pub late : s.late ≡ bytes_of (late_at p v) access
  pub overdue : s.overdue ≡ bytes_of (late_at p v) move
  pub far : s.far ≡ bytes_of (far_at p v) move

-- the steps of v lead the program p, of at most sixteen accesses, to this place
pub record Reached (code lengths class : List ℕ) (threads groups : ℕ) (x : Place) (p : Program) (v : Schedule) : Type 0 where
  pub loaded : Loaded code lengths threads p
  pub few : all_accesses p.threads ≤ 16
  pub lines : Lined class groups p
  pub allowed : Allowed TSO (start p) v
  pub holds : Holds code lengths (machine_of x) (end_of p v)
  pub counted : length v ≡ x.steps
  pub schedule : take x.steps x.schedule ≡ v
  pub sets : Carries x.sets p v
  pub words : (t : ℕ) → t < 6 → get_or x.words t 0 ≡ word_of (end_of p v) t
