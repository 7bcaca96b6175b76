-- `tarczolin_violation` says what the listing answers.
use Rattle.c_listing.proofs.ReplyOf.{says_violation}
use Rattle.c_listing.proofs.listed.tarczolin_violation.Goals as goal

pub returns : goal.returns
returns c = record { answer = says_violation _ _ c.schedule_word.ensures _ c.violation.ensures.answer; output = c.violation.ensures.output }
