-- `tarczolin_tso_class` says what the size of the class is, or the refusal.
use Rattle.std.proofs.Common.{ℕ, Result, ◌∙◌, ap}
use Rattle.spec_file.specs.declared.refusal.Refusal.{Refusal}
use Rattle.spec_calls.specs.Word.{word_of}
use Rattle.spec_calls.specs.ByRows.{rows_reply}
use Rattle.c_extra.proofs.ClassAnswered.{word_class}
use Rattle.c_tso.proofs.store_class.tarczolin_tso_class.Goals as goal

pub returns : goal.returns
returns c = c.class_word.ensures ∙ ap (λ (x : Result ℕ Refusal). word_of (rows_reply x)) c.class_size.ensures ∙ ap word_of (word_class _)
