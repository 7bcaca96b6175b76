-- The word of the answer to who can force.
use mathlib.Core.Path.{◌≡◌, refl}
use mathlib.Core.Option.{none, some}
use Rattle.spec_force.specs.Forced.{Answer, hostile_can, friendly_can, refusing}
use Rattle.force.specs.Answered.{answer_of}
use Rattle.spec_calls.specs.Forced.{force_reply}
use Rattle.c_extra.specs.Forcing.{forcing_reply}

pub word_forced : (a : Answer) → forcing_reply (answer_of a) ≡ force_reply a
unfolding answer_of force_reply forcing_reply
word_forced (hostile_can none) = refl
word_forced (hostile_can (some t)) = refl
word_forced friendly_can = refl
word_forced (refusing n k) = refl
