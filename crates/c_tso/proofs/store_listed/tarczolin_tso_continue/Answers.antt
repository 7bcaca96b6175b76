-- `tarczolin_tso_continue` says what the listing answers.
use Rattle.c_listing.proofs.ReplyOf.{says_listed}
use Rattle.c_tso.proofs.store_listed.tarczolin_tso_continue.Goals as goal

pub returns : goal.returns
returns c = record { answer = says_listed _ _ c.found_word.ensures _ c.continue_from.ensures.answer; output = c.continue_from.ensures.output }
