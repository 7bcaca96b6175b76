-- What the judge's answer says.
use mathlib.Core.Path.{◌≡◌, refl}
use Rattle.spec_judge.specs.Answer.{Answer, consistent, inconsistent, refusing}
use Rattle.judge.specs.Call.{outcome_of}
use Rattle.spec_calls.specs.Judged.{judged}
use Rattle.c_word.specs.Found.{reply_of}

pub word_judged : (a : Answer) → reply_of (outcome_of a) ≡ judged a
unfolding reply_of outcome_of judged
word_judged (consistent s) = refl
word_judged inconsistent = refl
word_judged (refusing n k) = refl
