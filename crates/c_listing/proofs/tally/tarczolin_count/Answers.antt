-- `tarczolin_count` says what the listing answers.
use Rattle.c_listing.proofs.tally.tarczolin_count.Goals as goal

pub returns : goal.returns
returns c = let e = c.count_word.ensures _ c.count.ensures in record { answer = e.0; listed = e.1; failing = e.2 }
