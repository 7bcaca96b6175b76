-- Sequential consistency as a memory model: a byte is a thread's number, and of two steps at one location one of which writes the earlier
-- must stay before the later. It turns no program away; an output has room for 24 bytes.
use Rattle.std.proofs.Math.Option.{none}
use Rattle.spec_model.specs.Model.{Model}
use Rattle.spec_sc.specs.State.{SC, start, fails, memory_of}
use Rattle.spec_sc.specs.Actions.{Action, action, who, conflict}
use Rattle.spec_sc.specs.Graph.{Graph, graph_of}
use Rattle.spec_sc.specs.Text.{graph_text}
use Rattle.spec_sc.specs.Exchange.{Moves, Renames}
use Rattle.spec_sc.specs.ExchangedActions.{moved_action}
use Rattle.spec_sc.specs.Renamed.{renames}

abbrev pub sc : Model
sc = record {
  system = SC;
  start = start;
  Action = Action;
  act = action;
  who = who;
  dependent = conflict;
  Graph = Graph;
  graph_of = graph_of;
  text = graph_text;
  moved_byte = λ π b. π b;
  moved_action = moved_action;
  Moves = Moves;
  Renames = Renames;
  renames = renames;
  fails = fails;
  memory_of = memory_of;
  top = 6;
  steps = 24;
  need = 24;
  away = λ p. none;
}
