-- Each row by itself, from the one test.
use mathlib.Core.Path.{◌≡◌, refl, ap}
use mathlib.Core.Bool.{true, false≢true}
use mathlib.Core.List.{Memᴰ}
use lib.Dec.{eqb}
use borrow.Author.Tests.{eqb-true}
use Rattle.spec_schedules.proofs.Lists.{all_at}
use Rattle.spec_sc.specs.Text.{text_of}
use Rattle.spec_judge.specs.Answer.{Answer, consistent, inconsistent, refusing, Judgement}
use Rattle.spec_judge.proofs.ByWalk.{answer_file}
use Rattle.spec_judge.proofs.Judgements.{computed_judged}
use Rattle.spec_file.proofs.Lists.{same_list_is}
use Rattle.spec_calls.specs.Printed.{printed}
use Rattle.spec_cases.specs.Table.{computed, Case, lists, judges, cases, judged, same_answer, right, all_right}

-- what a row says: its file is printed so; its text is answered so, by the definition, with an output of 24 bytes
abbrev pub Holds : Case → Type 0
Holds (lists r) = printed (text_of r.file) ≡ text_of r.prints
Holds (judges g) = Judgement (text_of g.file) (text_of g.text) 24 g.answer

same_answer_is : (a b : Answer) → same_answer a b ≡ true → a ≡ b
unfolding same_answer
same_answer_is (consistent r) (consistent s) e = ap consistent (same_list_is eqb eqb-true r s e)
same_answer_is (consistent r) inconsistent e = absurd (false≢true e)
same_answer_is (consistent r) (refusing n k) e = absurd (false≢true e)
same_answer_is inconsistent (consistent s) e = absurd (false≢true e)
same_answer_is inconsistent inconsistent e = refl
same_answer_is inconsistent (refusing n k) e = absurd (false≢true e)
same_answer_is (refusing m j) b e = absurd (false≢true e)

-- EACH P CASE
pub holds : (c : Case) → Memᴰ c cases → Holds c
unfolding right computed judged
holds (lists r) m = same_list_is eqb eqb-true (printed (text_of r.file)) (text_of r.prints) (all_at right cases (lists r) all_right m)
holds (judges g) m =
    computed_judged (text_of g.file) (text_of g.text) 24 g.answer
    (same_answer_is (answer_file (text_of g.file) (text_of g.text) 24) g.answer (all_at right cases (judges g) all_right m))
