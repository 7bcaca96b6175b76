-- `tarczolin_force` says what the game answers.
use Rattle.std.proofs.Common.{Result, ◌∙◌, ap}
use Rattle.spec_file.specs.declared.refusal.Refusal.{Refusal}
use Rattle.force.specs.declared.answering.Winner.{Winner}
use Rattle.spec_calls.specs.Word.{word_of}
use Rattle.c_extra.specs.Forcing.{forcing_reply}
use Rattle.c_extra.proofs.Forces.{word_forced}
use Rattle.c_extra.proofs.forcing.tarczolin_force.Goals as goal

pub returns : goal.returns
returns c =
    let answer = c.force.ensures in
    (answer.0, answer.1, c.force_word.ensures ∙ ap (λ (a : Result Winner Refusal). word_of (forcing_reply a)) answer.2 ∙ ap word_of (word_forced answer.0))
