-- `tarczolin_violation_with` says what the listing answers.
use Rattle.c_listing.proofs.ReplyOf.{says_violation}
use Rattle.c_states.proofs.by_states.tarczolin_violation_with.Goals as goal

pub returns : goal.returns
returns c =
    let said = c.violation_with.ensures in
    record { answer = says_violation _ _ c.found_word.ensures _ said.answer; output = said.output; scratch = said.later }
