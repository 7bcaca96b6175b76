-- R1 is sound: a step that is late can be moved to the front of a greater thread's step that it passes, which gives a smaller schedule with the
-- same end. It may have become late some steps earlier, if it is free of all steps since.
use Prim.Native.Nat.{ℕ}
use mathlib.Core.Path.{◌≡◌, refl, sym, ap, subst, ◌∙◌}
use mathlib.Core.Logic.{◌≢◌, inl, inr, Ne-symm}
use mathlib.Core.Bool.{true, false}
use mathlib.Core.List.{[], ◌∷◌, ◌++◌, append_assoc}
use native.Mathlib.Decide.{ℕ_discrete}
use Rattle.spec_file.specs.Program.{Program}
use Rattle.spec_file.specs.WellFormed.{WellFormed}
use Rattle.spec_schedules.specs.Order.{Schedule}
use Rattle.spec_schedules.proofs.Front.{Free}
use Rattle.spec_schedules.proofs.Runs.{run_append}
use Rattle.spec_model.proofs.Passing.{Passed}
use Rattle.theory_search.proofs.Late as Model
use Rattle.spec_sc.specs.State.{State, step, SC}
use Rattle.spec_sc.specs.Graph.{end_of, Full}
use Rattle.spec_sc.specs.Actions.{Action, action, who, conflict}
use Rattle.spec_sc.proofs.ActionTerms.{actions}
use Rattle.spec_sc.proofs.Swap.{Independent, action_after}
use Rattle.spec_sc.proofs.Trails.{who_is, conflict_elsewhere, conflict_read}
use Rattle.spec_sc.proofs.FreeSteps.{action_thread, action_location, action_wrote, free_action, actions_nil, actions_cons}
use Rattle.spec_model.specs.Alike.{Smaller}
use Rattle.theory_sc.specs.Rules.{late, taken}
use Rattle.spec_sc.specs.Sequential.{sc}
use Rattle.spec_sc.proofs.Laws.{sc_laws}

-- independent next steps do not conflict
unmet : (σ : State) (a t : ℕ) → Independent σ a t → conflict (action σ a) (action σ t) ≡ false
unmet σ a t (inl ne) = conflict_elsewhere (action σ a) (action σ t) (λ e. ne (sym (action_location σ a) ∙ e ∙ action_location σ t))
unmet σ a t (inr w) = go (ℕ_discrete (action σ a).location (action σ t).location)
  where
    go : Dec ((action σ a).location ≡ (action σ t).location) → conflict (action σ a) (action σ t) ≡ false
    go (yes e) = conflict_read (action σ a) (action σ t) e (action_wrote σ a ∙ w.0) ∙ action_wrote σ t ∙ w.1
    go (no e) = conflict_elsewhere (action σ a) (action σ t) e

-- a step passes the steps that it is free of
free_passes : (z : Schedule) (σ : State) (t : ℕ) → Free SC Independent σ z t → Passed who conflict (actions σ z) (action σ t)
free_passes [] σ t f = subst (λ k. Passed who conflict k (action σ t)) (sym (actions_nil σ)) tt
free_passes (a ∷ z) σ t f =
    subst (λ k. Passed who conflict k (action σ t)) (sym (actions_cons σ a z)) (
      (λ e. f.0 (sym (action_thread σ a) ∙ sym (who_is (action σ a)) ∙ e ∙ who_is (action σ t) ∙ action_thread σ t)),
      unmet σ a t f.1,
      subst (Passed who conflict (actions (step σ a) z)) (action_after σ a t (Ne-symm f.0) f.1) (free_passes z (step σ a) t f.2),
    )

module _ (p : Program) (w : WellFormed p) where
  -- R1
  pub late_smaller : (v : Schedule) (t : ℕ) (z : Schedule) → late (taken p v) (action (end_of p v) t) ≡ true → Full p (v ++ (t ∷ z)) → Smaller sc p (v ++ (t ∷ z))
  late_smaller v t z e f = Model.late_smaller sc sc_laws p (w, refl) v t z e f

  -- a late step stays late behind steps that it is free of
  pub late_still_smaller : (v f : Schedule) (t : ℕ) (z : Schedule) → late (taken p v) (action (end_of p v) t) ≡ true → Free SC Independent (end_of p v) f t → Full p (v ++ (f ++ (t ∷ z))) → Smaller sc p (v ++ (f ++ (t ∷ z)))
  late_still_smaller v f t z e free full =
      let same : action (end_of p v) t ≡ action (end_of p (v ++ f)) t = sym (free_action f (end_of p v) t free) ∙ ap (λ (τ : State). action τ t) (sym (run_append SC _ v f)) in
      let whole = append_assoc v f (t ∷ z) in
      subst (Smaller sc p) whole
      (Model.passing_smaller sc sc_laws p (w, refl) v f t z (subst (λ (d : Action). late (taken p v) d ≡ true) same e)
      (subst (Passed who conflict (actions (end_of p v) f)) same (free_passes f (end_of p v) t free)) (subst (Full p) (sym whole) full))
