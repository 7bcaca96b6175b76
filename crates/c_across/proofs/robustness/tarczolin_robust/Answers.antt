-- `tarczolin_robust` says what `robust` answers.
use Rattle.std.proofs.Common.{ℕ, Option, Result, ◌∙◌, ap}
use Rattle.spec_file.specs.declared.refusal.Refusal.{Refusal}
use Rattle.spec_calls.specs.Word.{word_of}
use Rattle.c_word.specs.Found.{reply_of}
use Rattle.c_across.proofs.Robustnesses.{word_robust}
use Rattle.c_across.proofs.robustness.tarczolin_robust.Goals as goal

pub returns : goal.returns
returns c =
    let answer = c.robust.ensures in
    (answer.0, answer.1, c.robust_word.ensures ∙ ap (λ (x : Result (Option ℕ) Refusal). word_of (reply_of x)) answer.2 ∙ ap word_of (word_robust answer.0), answer.3)
