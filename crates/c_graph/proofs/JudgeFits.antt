-- Where the judge's schedule stands in the output.
use Prim.Native.Nat.{ℕ}
use mathlib.Core.Path.{◌≡◌, refl}
use mathlib.Core.List.{List}
use native.Mathlib.Omega.{arith}
use lib.ListN.{length}
use Rattle.spec_file.proofs.Over.{take_over, drop_over, length_over}
use Rattle.spec_schedules.specs.Order.{Schedule}
use Rattle.spec_judge.specs.Answer.{Answer, consistent, inconsistent, refusing, output_after, Judgement}
use Rattle.listing.specs.Demand3.{InFront}
use Rattle.spec_calls.specs.Word.{answered, word_of, kind_in, rest_in}
use Rattle.spec_calls.specs.Judged.{judged}
use Rattle.spec_calls.proofs.Words.{kinded_one}
use Rattle.spec_calls.proofs.JudgeFits.{JudgeWithin, judge_within, judge_kinded}

-- the judge call's word of kind 1 tells how many bytes in front of the output are the schedule, whatever the text
pub judge_in_output : (file text out : List ℕ) (a : Answer) → Judgement file text (length out) a → kind_in (word_of (judged a)) ≡ 1 →
    (s : Schedule) × (a ≡ consistent s) × (length s ≡ rest_in (word_of (judged a))) × InFront s out (output_after a out)
unfolding judged output_after
judge_in_output file text out a j e =
    let w = judge_within file text (length out) a j in
    go a _ w (kinded_one (judged a) (judge_kinded file text (length out) a w) e)
  where
    go : (a : Answer) (n : ℕ) → JudgeWithin text (length out) a → judged a ≡ answered n → (s : Schedule) × (a ≡ consistent s) × (length s ≡ n) × InFront s out (output_after a out)
    go (consistent s) n h q = (s, refl, cc, (take_over s out, drop_over s out, length_over s out (omega arith)))
    go inconsistent n h q = absurd (let z : ◌≡◌ {A = ℕ} 0 1 = cc in omega arith)
    go (refusing i k) n h q = absurd (let z : ◌≡◌ {A = ℕ} 0 1 = cc in omega arith)
