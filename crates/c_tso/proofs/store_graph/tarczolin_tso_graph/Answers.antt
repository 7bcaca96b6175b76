-- `tarczolin_tso_graph` says what the machine answers.
use Rattle.std.proofs.Common.{ℕ, Result, ◌∙◌, ap}
use Rattle.spec_file.specs.declared.refusal.Refusal.{Refusal}
use Rattle.spec_calls.specs.Word.{word_of}
use Rattle.spec_calls.specs.ByRows.{rows_reply}
use Rattle.c_graph.proofs.Graphs.{word_graph}
use Rattle.c_tso.proofs.store_graph.tarczolin_tso_graph.Goals as goal

pub returns : goal.returns
returns c =
    let a = c.graph.ensures in
    record { answer = c.graph_word.ensures ∙ ap (λ (x : Result ℕ Refusal). word_of (rows_reply x)) a.answer ∙ ap word_of (word_graph _); output = a.output }
