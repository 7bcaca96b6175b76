-- The graph call's answer as the code gives it: the text's length, or the refusal.
use Rattle.std.specs.Prelude.{ℕ, length, Result, Ok, Err}
use Rattle.spec_file.specs.declared.refusal.Refusal.{Refusal}
use Rattle.spec_model.specs.GraphCall.{GraphResult, texted, refusing}

unfoldable pub graph_answer_of : GraphResult → Result ℕ Refusal
graph_answer_of (texted t) = Ok (length t)
graph_answer_of (refusing n k) = Err (record { number = n; place = k })
