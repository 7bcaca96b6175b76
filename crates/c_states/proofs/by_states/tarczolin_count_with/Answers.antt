-- `tarczolin_count_with` says what the listing answers.
use Rattle.std.proofs.Common.{◌∙◌, ap, sym}
use Rattle.spec_calls.specs.Word.{word_of}
use Rattle.c_listing.proofs.Tallies.{tallied_counted, tallied_refused}
use Rattle.c_states.proofs.by_states.tarczolin_count_with.Goals as goal

pub returns-in-Ok : goal.returns-in-Ok
returns-in-Ok c =
    let said = c.count_with.ensures in
    let e = tallied_counted _ c.in-Ok.tally c.args.listed.now c.args.failing.now (sym c.in-Ok.is ∙ said.answer) in
    record { answer = c.answered.ensures ∙ ap word_of e.0; listed = e.1; failing = e.2; scratch = said.later }

pub returns-in-Err : goal.returns-in-Err
returns-in-Err c =
    let said = c.count_with.ensures in
    let e = tallied_refused _ c.in-Err.r c.args.listed.now c.args.failing.now (sym c.in-Err.is ∙ said.answer) in
    record { answer = c.refused.ensures ∙ ap word_of e.0; listed = e.1; failing = e.2; scratch = said.later }
