-- What the machine's answer to a graph call says.
use mathlib.Core.Path.{◌≡◌, refl}
use Rattle.spec_model.specs.GraphCall.{GraphResult, texted, refusing}
use Rattle.graph_call.specs.GraphWord.{graph_answer_of}
use Rattle.spec_calls.specs.ByRows.{rows_reply}
use Rattle.spec_calls.specs.Graphed.{graph_reply}

pub word_graph : (g : GraphResult) → rows_reply (graph_answer_of g) ≡ graph_reply g
unfolding rows_reply graph_answer_of graph_reply
word_graph (texted t) = refl
word_graph (refusing n k) = refl
