-- WHAT THE GRAPH CALL SAYS, in any memory model. Refusals in order: the program's, what the model turns away, then 22 for an output shorter
-- than 512 bytes, then 20 and 21 of the schedule. Otherwise the text of the schedule's graph, which then stands in front of the output.
-- Only a text changes the output.
use Rattle.std.specs.Prelude.{ℕ, cond, List, ltb}
use Rattle.std.proofs.Math.Option.{Option, none, some}
use Rattle.spec_file.specs.Over.{over}
use Rattle.spec_file.specs.Program.{Program}
use Rattle.spec_file.specs.Decode.{Decoded, accepted, decode}
use Rattle.spec_file.specs.Decode as File
use Rattle.spec_schedules.specs.Order.{Schedule}
use Rattle.spec_model.specs.Model.{Model, graph}
use Rattle.spec_model.specs.Answers.{refuses_from}
use Rattle.spec_model.specs.OnFile.{admit}

pub data GraphResult : Type 0 where
  -- the text of the graph
  texted : List ℕ → GraphResult
  -- number and place
  refusing : ℕ → ℕ → GraphResult

module _ (M : Model) where
  -- by what refuses the schedule: 20 and 21 as of continue
  unfoldable pub graph_by : Program → Schedule → Option (ℕ × ℕ) → GraphResult
  graph_by p s none = texted (M.text (graph M p s))
  graph_by p s (some r) = refusing r.0 r.1

  -- of a program that is listed, with an output of so many bytes
  unfoldable pub graph_answer : Program → Schedule → ℕ → GraphResult
  graph_answer p s room = cond (ltb room 512) (refusing 22 0) (graph_by p s (refuses_from M.system 0 (M.start p) s))

  unfoldable pub graph_on : Decoded → Schedule → ℕ → GraphResult
  graph_on (accepted p) s room = graph_answer p s room
  graph_on (File.refused n k) s room = refusing n k

  -- of a program file
  abbrev pub graph_file : List ℕ → Schedule → ℕ → GraphResult
  graph_file file s room = graph_on (admit M (decode file)) s room

-- the later content of the output
unfoldable pub graph_output : GraphResult → List ℕ → List ℕ
graph_output (texted t) out = over t out
graph_output (refusing n k) out = out
