-- THE SEARCH FINDS what the list has above the bound, or those of it that fail, by every sound rule that leaves listed schedules only: with a
-- test at a full schedule it would by every sound rule, and such a rule comes to no schedule that fails the test.
use Prim.Native.Nat.{ℕ, ◌-◌}
use mathlib.Core.Path.{◌≡◌, refl, sym, ap, ◌∙◌}
use mathlib.Core.Logic.{◌⊎◌, inl, inr}
use mathlib.Core.Bool.{Bool, true, false, ◌||◌}
use mathlib.Core.Option.{Option, some}
use mathlib.Core.List.{List, [], ◌∷◌, ◌++◌}
use native.Mathlib.Omega.{arith}
use Rattle.spec_file.specs.Program.{Program}
use Rattle.spec_file.proofs.Tests.{either}
use Rattle.spec_schedules.specs.Lists.{both, filter}
use Rattle.spec_file.specs.Lists.{Ascends}
use Rattle.spec_schedules.specs.Order.{Schedule, less}
use Rattle.spec_schedules.specs.Fulls.{fulls}
use Rattle.spec_schedules.proofs.ListedTerms as Schedules
use Rattle.theory_search.specs.Search.{SoundCut, Uncut}
use Rattle.spec_schedules.specs.Found.{after}
use Rattle.theory_search.specs.Found.{found_from}
use Rattle.spec_schedules.specs.System.{run}
use Rattle.spec_schedules.proofs.Lists.{both_false, ascends_filter}
use Rattle.spec_schedules.proofs.After.{after_on}
use Rattle.spec_schedules.proofs.Kept.{filter_same, filter_filter}
use Rattle.theory_search.proofs.Search.{found_above}
use Rattle.theory_search.proofs.SameFound.{found_same}
use Rattle.spec_schedules.proofs.Listed.{list_filter}
use Rattle.theory_search.proofs.Listed.{cut_sound}
use Rattle.spec_model.specs.Model.{Model, end_of, Full, failing}
use Rattle.spec_model.specs.Laws.{Admitted, Laws}
use Rattle.spec_model.specs.Alike.{Smaller, list_of}
use Rattle.spec_model.proofs.AlikeTerms.{alike}
use Rattle.theory_search.specs.ModelSearch.{Rule, Sound, representative, looked_for, found}
use Rattle.spec_model.specs.Search.{sought}
use Rattle.spec_model.proofs.TheList.{list_is, list_ascends, tested, test_of}
use Rattle.theory_search.proofs.Representative.{representative_least, beaten_smaller}

-- two sound rules together
pub either_sound : (M : Model) (p : Program) (f g : Rule M) → Sound M p f → Sound M p g → Sound M p (λ v σ b. f v σ b || g v σ b)
either_sound M p f g s t v b z e full = go (either (f v (end_of M p v) b) (g v (end_of M p v) b) e)
  where
    go : (f v (end_of M p v) b ≡ true) ⊎ (g v (end_of M p v) b ≡ true) → Smaller M p (v ++ (b ∷ z))
    go (inl q) = s v b z q full
    go (inr q) = t v b z q full

module _ (M : Model) (L : Laws M) (p : Program) (a : Admitted M p) where
  good : (s : Schedule) → Full M p s → representative M p s ≡ true → Schedules.Smaller M.system (M.start p) (alike M p) s → ⊥
  good s f e b = representative_least M L p a s f e (tested M L p s b)

  bad : (s : Schedule) → Full M p s → representative M p s ≡ false → Schedules.Smaller M.system (M.start p) (alike M p) s
  bad s f e = test_of M L p s (beaten_smaller M L p a s f e)

  -- the list is what the test leaves of all full schedules
  pub list_kept : list_of M p ≡ filter (representative M p) (fulls M.system (M.start p))
  list_kept = list_is M L p ∙ list_filter M.system L.steps.lawful L.steps.ascend (M.start p) (alike M p) (representative M p) good bad

  -- with the test at a full schedule: what is looked for, and is listed
  abbrev checked : Bool → Schedule → Bool
  checked failures w = both (looked_for M failures p w) (representative M p w)

  sought_kept : (failures : Bool) → filter (checked failures) (fulls M.system (M.start p)) ≡ sought M failures p
  unfolding looked_for sought both
  sought_kept false = filter_same (checked false) (representative M p) (fulls M.system (M.start p)) (λ x. refl) ∙ sym list_kept
  sought_kept true =
      filter_same (checked true) (λ x. both (failing M p x) (representative M p x)) (fulls M.system (M.start p)) (λ x. refl)
      ∙ sym (filter_filter (representative M p) (failing M p) (fulls M.system (M.start p))) ∙ ap (filter (failing M p)) (sym list_kept)

  -- a sound rule that leaves listed schedules only
  module _ (rule : Program → Rule M) (sound : Sound M p (rule p)) (listed : (s : Schedule) → Full M p s → Uncut M.system (M.start p) (rule p) s → Smaller M p s → ⊥) where
    checked_sound : (failures : Bool) → SoundCut M.system (M.start p) (rule p) (checked failures)
    checked_sound failures v b z c f =
        ap (both (looked_for M failures p (v ++ (b ∷ z))))
        (cut_sound M.system L.steps.lawful L.steps.ascend (M.start p) (alike M p) (representative M p) good bad (rule p) (λ v b z c f. test_of M L p (v ++ (b ∷ z)) (sound v b z c f)) v b z c f)
        ∙ both_false (looked_for M failures p (v ++ (b ∷ z)))

    passes : (s : Schedule) → Full M p s → Uncut M.system (M.start p) (rule p) s → representative M p s ≡ true
    passes s f u = go (representative M p s) refl
      where
        go : (b : Bool) → representative M p s ≡ b → representative M p s ≡ true
        go true e = e
        go false e = absurd (listed s f u (beaten_smaller M L p a s f e))

    both_true : (b : Bool) → b ≡ both b true
    unfolding both
    both_true true = refl
    both_true false = refl

    -- THE SEARCH FINDS what the list has above the bound, in order, or those of it that fail
    pub found_exactly : (failures : Bool) (o : Option Schedule) → found M rule failures p o ≡ after o (sought M failures p)
    unfolding run
    found_exactly failures o =
        let all : M.steps - 0 ≡ M.steps = omega arith in
        ap (λ (k : ℕ). found_from M.system M.top (rule p) (looked_for M failures p) k o [] (M.start p)) all
        ∙ found_same M.system M.top (rule p) (M.start p) (looked_for M failures p) (checked failures)
        (λ s f u. both_true (looked_for M failures p s) ∙ ap (both (looked_for M failures p s)) (sym (passes s f u))) M.steps o
        ∙ found_above M.system M.top (rule p) (checked failures) L.steps.lawful L.steps.ascend L.steps.below (M.start p) (checked_sound failures) M.steps o (L.program p a).bound
        ∙ ap (after o) (sought_kept failures)

-- what is walked ascends
pub sought_ascends : (M : Model) (L : Laws M) (failures : Bool) (p : Program) → Ascends less (sought M failures p)
unfolding sought
sought_ascends M L false p = list_ascends M L p
sought_ascends M L true p = ascends_filter less (failing M p) (list_of M p) (list_ascends M L p)
