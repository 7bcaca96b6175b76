-- `tarczolin_judge` says what the judge answers.
use Rattle.std.proofs.Common.{ℕ, Option, Result, ◌∙◌, ap}
use Rattle.spec_file.specs.declared.refusal.Refusal.{Refusal}
use Rattle.spec_calls.specs.Word.{word_of}
use Rattle.c_word.specs.Found.{reply_of}
use Rattle.c_graph.proofs.Judgements.{word_judged}
use Rattle.c_graph.proofs.judgement.tarczolin_judge.Goals as goal

pub returns : goal.returns
returns c =
    let a = c.judge.ensures in
    (a.0, a.1, c.judged_word.ensures ∙ ap (λ (x : Result (Option ℕ) Refusal). word_of (reply_of x)) a.2 ∙ ap word_of (word_judged a.0), a.3)
