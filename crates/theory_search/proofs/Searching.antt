-- The search as code meets it, in any memory model and by any rule: with one next step, over the next steps in turn, and at a full schedule.
use Prim.Native.Nat.{ℕ, ◌+◌, ◌-◌, ◌<◌, ◌≤◌}
use mathlib.Core.Path.{◌≡◌, sym, ap, ◌∙◌}
use mathlib.Core.Bool.{Bool, true, false, not, ◌||◌}
use mathlib.Core.Option.{Option, none, some}
use mathlib.Core.List.{List, [], ◌∷◌, ◌++◌}
use native.Mathlib.Omega.{arith}
use Rattle.spec_file.specs.Program.{Program}
use Rattle.spec_schedules.specs.Order.{Schedule}
use Rattle.spec_schedules.specs.System.{ended}
use Rattle.theory_search.specs.Search.{low, past}
use Rattle.theory_search.specs.Found.{concat_range, found_from}
use Rattle.spec_schedules.proofs.Runs.{run_snoc}
use Rattle.theory_search.proofs.Found.{at_bound, at_listed, at_unlisted, by_not, by_cut, by_live, found_ended, found_stuck, found_branches}
use Rattle.spec_model.specs.Model.{Model, end_of, failing}
use Rattle.theory_search.specs.ModelSearch.{Rule, looked_for, found_behind, found_with}

module _ (M : Model) (rule : Program → Rule M) (failures : Bool) (p : Program) (steps : ℕ) where
  abbrev finder : Option Schedule → Schedule → M.system.State → List Schedule
  finder = λ x y z. found_from M.system M.top (rule p) (looked_for M failures p) (M.steps - steps - 1) x y z

  -- ---- with one next step
  module _ (o : Option Schedule) (v : Schedule) (b : ℕ) where
    -- the byte may not step, or the rule gives its step up
    pub with_ended : M.system.enabled (end_of M p v) b ≡ false → found_with M rule failures p steps o v b ≡ []
    with_ended e = by_not M.system M.top (rule p) (looked_for M failures p) finder o v (end_of M p v) b e

    pub with_given_up : M.system.enabled (end_of M p v) b ≡ true → rule p v (end_of M p v) b ≡ true → found_with M rule failures p steps o v b ≡ []
    with_given_up ok e = by_cut M.system M.top (rule p) (looked_for M failures p) finder o v (end_of M p v) b ok e

    -- the rule does not give it up
    pub with_live : M.system.enabled (end_of M p v) b ≡ true → rule p v (end_of M p v) b ≡ false
        → found_with M rule failures p steps o v b ≡ found_behind M rule failures p (steps + 1) (past o b) (v ++ (b ∷ []))
    with_live ok e =
        let n : M.steps - steps - 1 ≡ M.steps - (steps + 1) = omega arith in
        by_live M.system M.top (rule p) (looked_for M failures p) finder o v (end_of M p v) b ok e
        ∙ ap (λ (τ : M.system.State). finder (past o b) (v ++ (b ∷ [])) τ) (sym (run_snoc M.system (M.start p) v b))
        ∙ ap (λ (k : ℕ). found_from M.system M.top (rule p) (looked_for M failures p) k (past o b) (v ++ (b ∷ [])) (end_of M p (v ++ (b ∷ [])))) n

  -- ---- over the next steps in turn, and at a full schedule
  module _ (v : Schedule) where
    -- the run has ended, along the bound
    pub behind_bound : (b : Schedule) → ended M.system (end_of M p v) ≡ true → found_behind M rule failures p steps (some b) v ≡ []
    behind_bound b e = found_ended M.system M.top (rule p) (looked_for M failures p) (M.steps - steps) (some b) v (end_of M p v) e
        ∙ at_bound M.system M.top (rule p) (looked_for M failures p) b v

    meant : (o f c : Bool) → (not o || f) ≡ c → failing M p v ≡ f → looked_for M o p v ≡ c
    unfolding looked_for
    meant false f c e q = e
    meant true f c e q = q ∙ e

    -- apart from it: found, unless only failing ones are wanted and it does not fail
    pub behind_end : (f : Bool) → ended M.system (end_of M p v) ≡ true → failing M p v ≡ f → (not failures || f) ≡ true → found_behind M rule failures p steps none v ≡ v ∷ []
    behind_end f e q m = found_ended M.system M.top (rule p) (looked_for M failures p) (M.steps - steps) none v (end_of M p v) e
        ∙ at_listed M.system M.top (rule p) (looked_for M failures p) v (meant failures f true m q)

    pub behind_passed : (f : Bool) → ended M.system (end_of M p v) ≡ true → failing M p v ≡ f → (not failures || f) ≡ false → found_behind M rule failures p steps none v ≡ []
    behind_passed f e q m = found_ended M.system M.top (rule p) (looked_for M failures p) (M.steps - steps) none v (end_of M p v) e
        ∙ at_unlisted M.system M.top (rule p) (looked_for M failures p) v (meant failures f false m q)

    -- no room for a step
    pub behind_stuck : (o : Option Schedule) → ended M.system (end_of M p v) ≡ false → M.steps ≤ steps → found_behind M rule failures p steps o v ≡ []
    behind_stuck o e h = found_stuck M.system M.top (rule p) (looked_for M failures p) (M.steps - steps) o v (end_of M p v) e (omega arith)

    pub behind_branches : (o : Option Schedule) → ended M.system (end_of M p v) ≡ false → steps < M.steps
        → found_behind M rule failures p steps o v ≡ concat_range (λ d. found_with M rule failures p steps o v d) (M.top - low o) (low o)
    behind_branches o e h = found_branches M.system M.top (rule p) (looked_for M failures p) (M.steps - steps) o v (end_of M p v) e (omega arith)
