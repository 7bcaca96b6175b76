-- The word of a comparison, and where its schedule stands in the output.
use Prim.Native.Nat.{ℕ}
use mathlib.Core.Path.{◌≡◌, refl}
use mathlib.Core.List.{List}
use native.Mathlib.Omega.{arith}
use lib.ListN.{length}
use Rattle.spec_file.proofs.Over.{take_over, drop_over, length_over}
use Rattle.spec_schedules.specs.Order.{Schedule}
use Rattle.spec_covers.specs.Answer.{Answer, covered, lacking, first_refused, second_refused, output_refused, Comparison, output_after}
use Rattle.covers.specs.AnswerOf.{covers_answer_of}
use Rattle.listing.specs.Demand3.{InFront}
use Rattle.spec_calls.specs.Word.{answered, word_of, kind_in, rest_in}
use Rattle.spec_calls.specs.Against.{covers_reply}
use Rattle.c_extra.specs.Against.{against_reply}
use Rattle.spec_calls.proofs.Words.{kind_one}
use Rattle.spec_calls.proofs.Coverings.{AgainstWithin, against_within, covers_fits}

pub word_against : (a : Answer) → against_reply (covers_answer_of a) ≡ covers_reply a
unfolding against_reply covers_answer_of covers_reply
word_against covered = refl
word_against (lacking s) = refl
word_against (first_refused n k) = refl
word_against (second_refused n k) = refl
word_against (output_refused n k) = refl

pub covers_in_output : (first second out : List ℕ) (a : Answer) → Comparison first second (length out) a → kind_in (word_of (covers_reply a)) ≡ 1 →
    (s : Schedule) × (a ≡ lacking s) × (length s ≡ rest_in (word_of (covers_reply a))) × InFront s out (output_after a out)
unfolding covers_reply output_after
covers_in_output first second out a c e =
    go a _ (against_within first second (length out) a c) (kind_one (covers_reply a) (covers_fits first second (length out) a c) e)
  where
    go : (a : Answer) (n : ℕ) → AgainstWithin (length out) a → covers_reply a ≡ answered n
        → (s : Schedule) × (a ≡ lacking s) × (length s ≡ n) × InFront s out (output_after a out)
    go (lacking s) n h q = (s, refl, cc, (take_over s out, drop_over s out, length_over s out (omega arith)))
    go covered n h q = absurd (let z : ◌≡◌ {A = ℕ} 0 1 = cc in omega arith)
    go (first_refused i k) n h q = absurd (let z : ◌≡◌ {A = ℕ} 0 1 = cc in omega arith)
    go (second_refused i k) n h q = absurd (let z : ◌≡◌ {A = ℕ} 0 1 = cc in omega arith)
    go (output_refused i k) n h q = absurd (let z : ◌≡◌ {A = ℕ} 0 1 = cc in omega arith)
