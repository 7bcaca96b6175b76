-- `tarczolin_covers_models` says what the comparison answers.
use Rattle.std.proofs.Common.{ℕ, Option, Result, ◌∙◌, ap}
use Rattle.covers.specs.declared.covers_call.CoversRefusal.{CoversRefusal}
use Rattle.spec_calls.specs.Word.{word_of}
use Rattle.c_extra.specs.Against.{against_reply}
use Rattle.c_extra.proofs.Coverings.{word_against}
use Rattle.c_across.proofs.covering.tarczolin_covers_models.Goals as goal

pub returns : goal.returns
returns c =
    let answer = c.covers_models.ensures in
    (answer.0, answer.1, c.against_word.ensures ∙ ap (λ (x : Result (Option ℕ) CoversRefusal). word_of (against_reply x)) answer.2 ∙ ap word_of (word_against answer.0), answer.3, answer.4)
