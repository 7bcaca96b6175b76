-- `tarczolin_kth` says what the member call answers.
use Rattle.c_listing.proofs.ReplyOf.{says_listed}
use Rattle.c_states.proofs.members.tarczolin_kth.Goals as goal

pub returns : goal.returns
returns c =
    let said = c.kth.ensures in
    record { answer = says_listed _ _ c.found_word.ensures _ said.answer; output = said.output; scratch = said.later }
