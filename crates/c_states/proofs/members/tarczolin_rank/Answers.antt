-- `tarczolin_rank` says what the member call answers.
use Rattle.std.proofs.Common.{◌∙◌, ap, sym}
use Rattle.spec_calls.specs.Word.{word_of}
use Rattle.c_states.proofs.Ranks.{said_ranked, said_refused}
use Rattle.c_states.proofs.members.tarczolin_rank.Goals as goal

pub returns-in-Ok : goal.returns-in-Ok
returns-in-Ok c =
    let said = c.rank.ensures in
    let e = said_ranked _ c.in-Ok.n c.args.rank.now (sym c.in-Ok.is ∙ said.answer) in
    record { answer = c.answered.ensures ∙ ap word_of e.0; rank = e.1; scratch = said.later }

pub returns-in-Err : goal.returns-in-Err
returns-in-Err c =
    let said = c.rank.ensures in
    let e = said_refused _ c.in-Err.r c.args.rank.now (sym c.in-Err.is ∙ said.answer) in
    record { answer = c.refused.ensures ∙ ap word_of e.0; rank = e.1; scratch = said.later }
