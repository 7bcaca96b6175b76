-- `mark_thread` stores a word.
use Rattle.search_place.proofs.going.mark_thread.Goals as goal

pub returns : goal.returns
returns c = let own = c.wide-u in rw (c.word_behind.ensures, own.ensures.same)
