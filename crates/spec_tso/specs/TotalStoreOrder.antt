-- Total store order as a memory model. A byte t below 16 is thread t's next access, 16 + t the move of its oldest pending store. A program
-- with more than 16 accesses in the file is turned away, with 41 at place 0; so no schedule has more than 32 steps. An output needs
-- 48 bytes.
use Rattle.std.specs.Prelude.{ℕ, true, false, ltb}
use Rattle.std.proofs.Math.Option.{Option, none, some}
use Rattle.spec_file.specs.Program.{Program}
use Rattle.spec_file.specs.WellFormed.{all_accesses}
use Rattle.spec_model.specs.Model.{Model}
use Rattle.spec_sc.specs.Graph.{Graph}
use Rattle.spec_sc.specs.Text.{graph_text}
use Rattle.spec_sc.specs.Exchange.{Renames}
use Rattle.spec_sc.specs.Renamed.{renames}
use Rattle.spec_tso.specs.State.{TSO, start, fails, memory_of}
use Rattle.spec_tso.specs.Graph.{graph_of}
use Rattle.spec_tso.specs.Actions.{Action, action, who, dependent}
use Rattle.spec_tso.specs.Exchange.{moved_byte, moved_action, Moves}

-- 41: more than 16 accesses in the file, also those that no run does
unfoldable pub too_many : Program → Option (ℕ × ℕ)
too_many p = elim (ltb 16 (all_accesses p.threads)) [ true ↦ some (41, 0) | false ↦ none ]

abbrev pub tso : Model
tso = record {
  system = TSO;
  start = start;
  Action = Action;
  act = action;
  who = who;
  dependent = dependent;
  Graph = Graph;
  graph_of = graph_of;
  text = graph_text;
  moved_byte = moved_byte;
  moved_action = moved_action;
  Moves = Moves;
  Renames = Renames;
  renames = renames;
  fails = fails;
  memory_of = memory_of;
  top = 22;
  steps = 32;
  need = 48;
  away = too_many;
}
