-- What the answer to the call about robustness says, that it fits its word, whatever is lent, and where its schedule stands in the output.
use Prim.Native.Nat.{ℕ, ◌^◌, ◌<◌, ◌≤◌}
use mathlib.Core.Path.{◌≡◌, refl}
use mathlib.Core.List.{List}
use native.Mathlib.Omega.{arith}
use lib.ListN.{length}
use Rattle.spec_file.proofs.Over.{take_over, drop_over, length_over}
use Rattle.spec_schedules.specs.Order.{Schedule}
use Rattle.spec_model.proofs.Admitted.{listed_program}
use Rattle.spec_tso.proofs.Laws.{tso_laws, at_most_16}
use Rattle.spec_tso.proofs.Lawful.{at_most_32}
use Rattle.spec_across.specs.RobustCall.{Answer, robust, relaxed, refusing, Robustness, by_file, by_output, holding, breaking, output_after}
use Rattle.spec_across.specs.RobustWord.{robust_reply}
use Rattle.spec_calls.specs.Word.{answered, word_of, kind_in, rest_in, Fits}
use Rattle.spec_calls.proofs.Words.{kind_one}
use Rattle.listing.specs.Demand3.{InFront}
use Rattle.listing_model.specs.declared.memory.Model.TheVariants.{TotalStoreOrder}
use Rattle.listing_model.proofs.SmallRefusals.{refused_small}
use Rattle.robust.specs.AnswerOf.{robust_answer_of}
use Rattle.c_word.specs.Found.{reply_of}

-- by the answer as the code gives it
pub word_robust : (a : Answer) → reply_of (robust_answer_of a) ≡ robust_reply a
unfolding reply_of robust_answer_of robust_reply
word_robust robust = refl
word_robust (relaxed s) = refl
word_robust (refusing n k) = refl

-- a schedule has at most 32 steps, and is answered only where there is room for it
abbrev RobustWithin : ℕ → Answer → Type 0
RobustWithin room robust = Unit {0}
RobustWithin room (relaxed s) = (length s ≤ 32) × (48 ≤ room)
RobustWithin room (refusing n k) = (n < 256) × (k < 2 ^ 48)

module _ (file : List ℕ) (room : ℕ) where
  robust_within : (a : Answer) → Robustness file room a → RobustWithin room a
  robust_within robust (holding p e h r) = tt
  robust_within (relaxed s) (breaking p s' e h f) = (at_most_32 p (at_most_16 p (listed_program _ tso_laws file p e).1) s f.listed.0, h)
  robust_within (refusing n k) (by_file n' k' e) = refused_small TotalStoreOrder file n k e
  robust_within (refusing n k) (by_output p e h) = (omega arith, omega arith)

  -- THE CALL fits its word
  pub robust_fits : (a : Answer) → Robustness file room a → Fits (robust_reply a)
  unfolding robust_reply
  robust_fits a c = go a (robust_within a c)
    where
      go : (a : Answer) → RobustWithin room a → Fits (robust_reply a)
      go robust h = tt
      go (relaxed s) h = omega arith
      go (refusing n k) h = h

-- A WORD OF KIND 1 tells how many bytes in front of the output are the schedule
pub robust_in_output : (file out : List ℕ) (a : Answer) → Robustness file (length out) a → kind_in (word_of (robust_reply a)) ≡ 1 →
    (s : Schedule) × (a ≡ relaxed s) × (length s ≡ rest_in (word_of (robust_reply a))) × InFront s out (output_after a out)
unfolding robust_reply output_after
robust_in_output file out a c e = go a _ (robust_within file (length out) a c) (kind_one (robust_reply a) (robust_fits file (length out) a c) e)
  where
    go : (a : Answer) (n : ℕ) → RobustWithin (length out) a → robust_reply a ≡ answered n
        → (s : Schedule) × (a ≡ relaxed s) × (length s ≡ n) × InFront s out (output_after a out)
    go (relaxed s) n h q = (s, refl, cc, (take_over s out, drop_over s out, length_over s out (omega arith)))
    go robust n h q = absurd (let z : ◌≡◌ {A = ℕ} 0 1 = cc in omega arith)
    go (refusing i k) n h q = absurd (let z : ◌≡◌ {A = ℕ} 0 1 = cc in omega arith)
