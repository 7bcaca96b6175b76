-- Whether a schedule is relaxed, as a test by the judge, and the first such in the list.
use mathlib.Core.Path.{◌≡◌, refl, sym, ap, ◌∙◌}
use mathlib.Core.Bool.{Bool, true, false, true≢false, false≢true}
use mathlib.Core.Option.{Option, none, some}
use Rattle.spec_file.specs.Program.{Program}
use Rattle.spec_file.specs.WellFormed.{WellFormed}
use Rattle.spec_schedules.specs.Lists.{find}
use Rattle.spec_schedules.specs.Order.{Schedule, less}
use Rattle.spec_schedules.proofs.First.{find_none}
use Rattle.spec_schedules.proofs.FirstIn.{find_in, in_find, none_find}
use Rattle.spec_model.specs.Model.{Full, graph}
use Rattle.spec_model.specs.Laws.{Admitted}
use Rattle.spec_model.specs.Alike.{list_of}
use Rattle.spec_model.proofs.TheList.{list_exact, list_ascends, one_each, listed_below}
use Rattle.spec_judge.proofs.Walk.{judge}
use Rattle.spec_judge.proofs.Judged.{judge_yes, judge_no}
use Rattle.spec_tso.specs.TotalStoreOrder.{tso}
use Rattle.spec_tso.proofs.Laws.{tso_laws}
use Rattle.spec_across.specs.Robust.{Sequential, Robust, FirstRelaxed}
use Rattle.spec_across.proofs.Exchanged.{alike_sequential, robust_listed}

-- the judge's no
unfoldable pub is_no : Option Schedule → Bool
is_no none = true
is_no (some s) = false

-- whether the graph of s under total store order is judged no
unfoldable pub is_relaxed : Program → Schedule → Bool
is_relaxed p s = is_no (judge p (graph tso p s))

-- the first listed one
abbrev pub first_relaxed : Program → Option Schedule
first_relaxed p = find (is_relaxed p) (list_of tso p)

-- THE TEST IS EXACT
module _ (p : Program) (w : WellFormed p) (s : Schedule) where
  pub relaxed_no : is_relaxed p s ≡ true → Sequential p s → ⊥
  unfolding is_relaxed is_no
  relaxed_no e = go (judge p (graph tso p s)) refl
    where
      go : (o : Option Schedule) → judge p (graph tso p s) ≡ o → Sequential p s → ⊥
      go none q = (judge_no p w (graph tso p s)).0 q
      go (some r) q = absurd (false≢true (sym (ap is_no q) ∙ e))

  pub sequential_of : is_relaxed p s ≡ false → Sequential p s
  unfolding is_relaxed is_no
  sequential_of e = go (judge p (graph tso p s)) refl
    where
      go : (o : Option Schedule) → judge p (graph tso p s) ≡ o → Sequential p s
      go none q = absurd (true≢false (sym (ap is_no q) ∙ e))
      go (some r) q = (judge_yes p w (graph tso p s) r q).1

  pub sequential_test : Sequential p s → is_relaxed p s ≡ false
  sequential_test c = go (is_relaxed p s) refl
    where
      go : (b : Bool) → is_relaxed p s ≡ b → is_relaxed p s ≡ false
      go true q = absurd (relaxed_no q c)
      go false q = q

  pub relaxed_test : (Sequential p s → ⊥) → is_relaxed p s ≡ true
  relaxed_test n = go (is_relaxed p s) refl
    where
      go : (b : Bool) → is_relaxed p s ≡ b → is_relaxed p s ≡ true
      go true q = q
      go false q = absurd (n (sequential_of q))

-- WHAT IS FOUND: none exactly in robust programs, and else the first
module _ (p : Program) (a : Admitted tso p) where
  pub none_robust : first_relaxed p ≡ none → Robust p
  none_robust e = (robust_listed p a).1 (λ s l. sequential_of p a.0 s (none_find (is_relaxed p) (list_of tso p) e s ((list_exact tso tso_laws p s).1 l)))

  pub robust_none : Robust p → first_relaxed p ≡ none
  robust_none r = find_none (is_relaxed p) (list_of tso p) (λ s m. sequential_test p a.0 s (r s ((list_exact tso tso_laws p s).0 m).0))

  pub some_first : (s : Schedule) → first_relaxed p ≡ some s → FirstRelaxed p s
  some_first s e =
      let f = find_in (is_relaxed p) (list_of tso p) (list_ascends tso tso_laws p) s e in
      record {
        listed = (list_exact tso tso_laws p s).0 f.0;
        relaxed = relaxed_no p a.0 s f.1;
        first = λ r l h. sequential_of p a.0 r (f.2 r ((list_exact tso tso_laws p r).1 l) h);
      }

  pub first_some : (s : Schedule) → FirstRelaxed p s → first_relaxed p ≡ some s
  first_some s f =
      in_find (is_relaxed p) (list_of tso p) (list_ascends tso tso_laws p) s (
        (list_exact tso tso_laws p s).1 f.listed,
        relaxed_test p a.0 s f.relaxed,
        λ r m h. sequential_test p a.0 r (f.first r ((list_exact tso tso_laws p r).0 m) h),
      )

  -- ALL FULL SCHEDULES: the graph of every smaller one, listed or not, is consistent
  pub first_of_all : (s : Schedule) → FirstRelaxed p s → (r : Schedule) → Full tso p r → less r s ≡ true → Sequential p r
  first_of_all s f r full h =
      let c = one_each tso tso_laws p a r full in
      let l = (list_exact tso tso_laws p c.0).0 c.1 in
      alike_sequential p a.0 c.0 r c.2 (f.first c.0 l (listed_below tso tso_laws p a c.0 r s l full c.2 h))
