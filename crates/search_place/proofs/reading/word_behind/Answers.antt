-- `word_behind` by its three cases.
use Rattle.std.proofs.Common.{lt-ltb, le-ltb, sym, ◌∙◌}
use Rattle.theory_sc.specs.ThreadWords.{word_behind}
use Rattle.search_place.proofs.reading.word_behind.Goals.{then-wrote-via-then-wrote, then-wrote-via-else-wrote+then-word-ge-FULL_WORD}
use Rattle.search_place.proofs.reading.word_behind.Goals as goal

pub returns-then-wrote : goal.returns-then-wrote
unfolding word_behind
returns-then-wrote c = elim c.then-wrote.branch [
  | then-wrote-via-then-wrote w ↦ c.lone.ensures ∙ sym (rw w.if-wrote.true)
  | then-wrote-via-else-wrote+then-word-ge-FULL_WORD w ↦ c.lone.ensures ∙ sym (rw (w.if-wrote.false, le-ltb _ _ w.if-word-ge-FULL_WORD.true))
]

pub returns : goal.returns
unfolding word_behind
returns c = sym (rw (c.if-wrote.false, lt-ltb _ _ c.if-word-ge-FULL_WORD.false))
