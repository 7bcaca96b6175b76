-- Document 01's two graphs of the pair of stores and loads: what the walk finds, computed, and what that says by the definition of consistent.
use mathlib.Core.Path.{◌≡◌, refl}
use mathlib.Core.Option.{none, some}
use mathlib.Core.List.{[], ◌∷◌}
use native.Mathlib.Omega.{arith}
use Rattle.spec_file.specs.WellFormed.{WellFormed, accesses, all_accesses}
use Rattle.spec_judge.specs.Consistent.{Consistent}
use Rattle.spec_judge.specs.Least.{LeastFor}
use Rattle.spec_judge.proofs.Walk.{judge}
use Rattle.spec_judge.proofs.Examples.{judging, buffering, neither_seen, first_seen}
use Rattle.spec_judge.proofs.Judged.{judge_yes, judge_no}

buffering_formed : WellFormed buffering
unfolding accesses all_accesses
buffering_formed = record {
  six = omega arith;
  sixteen = (omega arith, (omega arith, tt));
  access_24 = omega arith;
  ranges = (((omega arith, omega arith), ((omega arith, omega arith), tt)), (((omega arith, omega arith), ((omega arith, omega arith), tt)), tt));
  skips = ((omega arith, (omega arith, tt)), ((omega arith, (omega arith, tt)), tt));
  groups = tt;
  apart = tt;
  eight = refl;
  words = (omega arith, (omega arith, (omega arith, (omega arith, (omega arith, (omega arith, (omega arith, (omega arith, tt))))))));
}

-- no
no_found : judge buffering neither_seen ≡ none
unfolding judging
no_found = refl

pub neither_no : Consistent buffering neither_seen → ⊥
neither_no = (judge_no buffering buffering_formed neither_seen).0 no_found

-- yes, and 00 00 01 01 is the least
yes_found : judge buffering first_seen ≡ some (0 ∷ 0 ∷ 1 ∷ 1 ∷ [])
unfolding judging
yes_found = refl

pub find_yes : LeastFor buffering first_seen (0 ∷ 0 ∷ 1 ∷ 1 ∷ []) × Consistent buffering first_seen
find_yes = let r = judge_yes buffering buffering_formed first_seen (0 ∷ 0 ∷ 1 ∷ 1 ∷ []) yes_found in (r.0, r.1)
