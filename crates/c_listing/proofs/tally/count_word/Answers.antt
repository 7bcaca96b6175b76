-- `count_word` by whether the count is refused.
use Rattle.std.proofs.Common.{◌∙◌, ap, sym}
use Rattle.spec_calls.specs.Word.{word_of}
use Rattle.c_listing.proofs.Tallies.{tallied_counted, tallied_refused}
use Rattle.c_listing.proofs.tally.count_word.Goals as goal

pub returns-in-Ok : goal.returns-in-Ok
returns-in-Ok c = λ k q.
    let e = tallied_counted k c.in-Ok.tally c.args.listed.now c.args.failing.now (sym c.in-Ok.is ∙ q) in
    (c.answered.ensures ∙ ap word_of e.0, e.1, e.2)

pub returns-in-Err : goal.returns-in-Err
returns-in-Err c = λ k q.
    let e = tallied_refused k c.in-Err.r c.args.listed.now c.args.failing.now (sym c.in-Err.is ∙ q) in
    (c.refused.ensures ∙ ap word_of e.0, e.1, e.2)
