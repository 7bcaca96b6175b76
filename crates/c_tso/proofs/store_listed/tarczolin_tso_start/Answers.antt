-- `tarczolin_tso_start` says what the listing answers.
use Rattle.c_listing.proofs.ReplyOf.{says_listed}
use Rattle.c_tso.proofs.store_listed.tarczolin_tso_start.Goals as goal

pub returns : goal.returns
returns c = record { answer = says_listed _ _ c.found_word.ensures _ c.start.ensures.answer; output = c.start.ensures.output }
