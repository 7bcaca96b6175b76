-- `word_behind` by its three cases.
use Rattle.std.proofs.Common.{lt-ltb, le-ltb, sym, ◌∙◌}
use Rattle.theory_sc.specs.ThreadWords.{word_behind}
use Rattle.tso_place.proofs.reading.word_behind.Goals.{else-not-puts-via-then-not-puts+else-word-lt-FULL_WORD, else-not-puts-via-else-not-puts}
use Rattle.tso_place.proofs.reading.word_behind.Goals as goal

pub returns-then-word-lt-FULL_WORD : goal.returns-then-word-lt-FULL_WORD
unfolding word_behind
returns-then-word-lt-FULL_WORD c = sym (rw (c.if-not-puts.true, lt-ltb _ _ c.if-word-lt-FULL_WORD.true))

pub returns-else-not-puts : goal.returns-else-not-puts
unfolding word_behind
returns-else-not-puts c = elim c.else-not-puts.branch [
  | else-not-puts-via-then-not-puts+else-word-lt-FULL_WORD w ↦ c.lone.ensures ∙ sym (rw (w.if-not-puts.true, le-ltb _ _ w.if-word-lt-FULL_WORD.false))
  | else-not-puts-via-else-not-puts w ↦ c.lone.ensures ∙ sym (rw w.if-not-puts.false)
]
