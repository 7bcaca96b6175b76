-- `tarczolin_tso_count` says what the listing answers.
use Rattle.std.proofs.Common.{◌∙◌, ap, sym}
use Rattle.spec_calls.specs.Word.{word_of}
use Rattle.c_listing.proofs.Tallies.{tallied_counted, tallied_refused}
use Rattle.c_tso.proofs.store_tally.tarczolin_tso_count.Goals as goal

pub returns-in-Ok : goal.returns-in-Ok
returns-in-Ok c =
    let e = tallied_counted _ c.in-Ok.tally c.args.listed.now c.args.failing.now (sym c.in-Ok.is ∙ c.count.ensures) in
    record { answer = c.answered.ensures ∙ ap word_of e.0; listed = e.1; failing = e.2 }

pub returns-in-Err : goal.returns-in-Err
returns-in-Err c =
    let e = tallied_refused _ c.in-Err.r c.args.listed.now c.args.failing.now (sym c.in-Err.is ∙ c.count.ensures) in
    record { answer = c.refused.ensures ∙ ap word_of e.0; listed = e.1; failing = e.2 }
