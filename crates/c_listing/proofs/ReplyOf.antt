-- What the listing's answers say.
use mathlib.Core.Path.{◌≡◌, refl, ap, ◌∙◌}
use Rattle.std.specs.Prelude.{ℕ, Option, Result}
use Rattle.spec_file.specs.declared.refusal.Refusal.{Refusal}
use Rattle.spec_schedules.specs.Calls.{Answer, found, nomore, refused}
use Rattle.spec_model.specs.Answers.{Violation, fails_first, none_fails, refused_by}
use Rattle.listing.specs.AnswerOf.{list_answer_of, violation_answer_of}
use Rattle.spec_calls.specs.Listed.{listed, violation_reply}
use Rattle.spec_calls.specs.Word.{word_of}
use Rattle.c_word.specs.Found.{reply_of}

word_answer : (a : Answer) → reply_of (list_answer_of a) ≡ listed a
unfolding reply_of list_answer_of listed
word_answer (found s) = refl
word_answer nomore = refl
word_answer (refused n k) = refl

word_violation : (v : Violation) → reply_of (violation_answer_of v) ≡ violation_reply v
unfolding reply_of violation_answer_of violation_reply
word_violation (fails_first s) = refl
word_violation none_fails = refl
word_violation (refused_by n k) = refl

-- THE WORDS of the answers as the code gives them
module _ (w : ℕ) (r : Result (Option ℕ) Refusal) (e : w ≡ word_of (reply_of r)) where
  pub says_listed : (a : Answer) → r ≡ list_answer_of a → w ≡ word_of (listed a)
  says_listed a q = e ∙ ap (λ (x : Result (Option ℕ) Refusal). word_of (reply_of x)) q ∙ ap word_of (word_answer a)

  pub says_violation : (v : Violation) → r ≡ violation_answer_of v → w ≡ word_of (violation_reply v)
  says_violation v q = e ∙ ap (λ (x : Result (Option ℕ) Refusal). word_of (reply_of x)) q ∙ ap word_of (word_violation v)
