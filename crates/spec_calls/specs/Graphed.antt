-- What the graph call says: answered, with the text's length, or the refusal.
use Rattle.std.specs.Prelude.{length}
use Rattle.spec_model.specs.GraphCall.{GraphResult, texted, refusing}
use Rattle.spec_calls.specs.Word as word

unfoldable pub graph_reply : GraphResult → word.Reply
graph_reply (texted t) = word.answered (length t)
graph_reply (refusing n k) = word.refused n k
