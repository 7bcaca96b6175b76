-- WHAT PASSES, AS CODE MEETS IT, in any memory model and by any rule: with one next step, over the next steps in turn, and where nobody may step.
use Prim.Native.Nat.{ℕ, ◌+◌, ◌-◌, ◌<◌}
use mathlib.Core.Path.{◌≡◌, refl, sym, ap, ap₂, ◌∙◌}
use mathlib.Core.Bool.{Bool, true, false, cond}
use mathlib.Core.Option.{Option, none, some}
use mathlib.Core.List.{List, [], ◌∷◌, ◌++◌}
use Rattle.spec_file.specs.Program.{Program}
use Rattle.spec_schedules.specs.Lists.{filter, head_of}
use Rattle.spec_schedules.specs.Order.{Schedule}
use Rattle.spec_schedules.specs.System.{ended}
use Rattle.spec_schedules.proofs.Kept.{filter_nil}
use Rattle.spec_schedules.proofs.Lists.{filter_yes, filter_no}
use Rattle.spec_model.specs.Model.{Model, end_of, failing}
use Rattle.spec_covers.specs.declared.outcome.Outcome.{Outcome}
use Rattle.theory_search.specs.Search.{low}
use Rattle.theory_search.specs.Found.{concat_range}
use Rattle.theory_search.specs.ModelSearch.{Rule, found_behind, found_with}
use Rattle.theory_search.proofs.Found.{past_none}
use Rattle.theory_search.proofs.Searching.{with_given_up, with_live, behind_end, behind_branches}
use Rattle.theory_states.proofs.Passing.{head_nil}
use Rattle.theory_outcomes.specs.Outcomes.{passes, comes_so, passing_behind, passing_with}
use Rattle.theory_outcomes.proofs.Ending.{ends_at, passing_range}

module _ (M : Model) (rule : Program → Rule M) (test : Outcome → Bool) (p : Program) (steps : ℕ) (v : Schedule) where
  abbrev sift : List Schedule → List Schedule
  sift = filter (comes_so M test p)

  -- ---- with one next step: nothing is found, the rule gives it up, or it does not
  module _ (b : ℕ) where
    pub none_with : found_with M rule false p steps none v b ≡ [] → none ≡ head_of (passing_with M rule test p steps v b)
    none_with e = sym (head_nil (passing_with M rule test p steps v b) (ap sift e ∙ filter_nil (comes_so M test p)))

    pub cut_with : M.system.enabled (end_of M p v) b ≡ true → rule p v (end_of M p v) b ≡ true → none ≡ head_of (passing_with M rule test p steps v b)
    cut_with ok e = none_with (with_given_up M rule false p steps none v b ok e)

    pub live_with : M.system.enabled (end_of M p v) b ≡ true → rule p v (end_of M p v) b ≡ false → (k : ℕ) → k ≡ steps + 1 →
        passing_behind M rule test p k (v ++ (b ∷ [])) ≡ passing_with M rule test p steps v b
    live_with ok e k q = ap sift (
        ap₂ (λ (i : ℕ) (o : Option Schedule). found_behind M rule false p i o (v ++ (b ∷ []))) q (sym (past_none b)) ∙ sym (with_live M rule false p steps none v b ok e))

  -- ---- over the next steps in turn
  pub turns_with : ended M.system (end_of M p v) ≡ false → steps < M.steps →
      passing_behind M rule test p steps v ≡ concat_range (λ d. passing_with M rule test p steps v d) (M.top - low none) (low none)
  turns_with e room =
      ap sift (behind_branches M rule false p steps v none e room)
      ∙ sym (passing_range (comes_so M test p) (λ d. passing_with M rule test p steps v d) (λ d. found_with M rule false p steps none v d) (λ d. refl) (M.top - low none) (low none))

  -- ---- where nobody may step: the prefix, if its outcome passes
  module _ (e : ended M.system (end_of M p v) ≡ true) where
    comes : (b : Bool) → passes M test (end_of M p v) ≡ b → comes_so M test p v ≡ b
    comes b f = ends_at M.system (passes M test) (end_of M p v) e ∙ f

    alone : passing_behind M rule test p steps v ≡ sift (v ∷ [])
    alone = ap sift (behind_end M rule false p steps v (failing M p v) e refl refl)

    pub ended_with : (found : Bool) (s : Schedule) → found ≡ passes M test (end_of M p v) → s ≡ v → cond found (some s) none ≡ head_of (passing_behind M rule test p steps v)
    unfolding head_of
    ended_with found s q same = go (passes M test (end_of M p v)) refl
      where
        go : (b : Bool) → passes M test (end_of M p v) ≡ b → cond found (some s) none ≡ head_of (passing_behind M rule test p steps v)
        go true f = ap₂ (λ (c : Bool) (r : Schedule). cond c (some r) none) (q ∙ f) same ∙ sym (ap head_of (alone ∙ filter_yes (comes_so M test p) v [] (comes true f)))
        go false f = ap₂ (λ (c : Bool) (r : Schedule). cond c (some r) none) (q ∙ f) same
            ∙ sym (ap head_of (alone ∙ filter_no (comes_so M test p) v [] (comes false f) ∙ filter_nil (comes_so M test p)))
