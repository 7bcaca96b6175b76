-- WHICH STEPS FAIL: a run has failed behind a step if it had before, or if the step fails.
use Prim.Native.Nat.{ℕ}
use mathlib.Core.Path.{◌≡◌, refl, sym, ap, subst, ◌∙◌}
use mathlib.Core.Logic.{inl, inr, ⊎_elim}
use mathlib.Core.Bool.{Bool, true, false, ◌||◌, false≢true}
use native.Mathlib.Decide.{ℕ_discrete}
use lib.ListN.{length}
use Rattle.spec_file.specs.Program.{Program}
use Rattle.spec_file.specs.WellFormed.{WellFormed}
use Rattle.spec_file.proofs.Tests.{either, equal_tests}
use Rattle.spec_schedules.specs.Order.{Schedule}
use Rattle.spec_model.proofs.Permitted.{or_left, or_right}
use Rattle.spec_sc.specs.State as SC
use Rattle.spec_sc.proofs.Failing as SCFailing
use Rattle.spec_tso.specs.State.{Thread, State, Kind, access, move, unqueued, without_queues, thread_of, cell_of, thread_behind, place, step_of, able, kind_of, owner, step, enabled, TSO, start, fails}
use Rattle.spec_tso.proofs.Steps.{enabled_able, able_range, thread_own, thread_other}
use Rattle.spec_tso.proofs.Seen.{seen_thread}
use Rattle.spec_tso.proofs.Failing.{stays_failed}
use Rattle.theory_states.specs.Positions.{Breaks}
use Rattle.theory_tso_key.specs.Views.{breaks_by, breaks}
use Rattle.theory_tso_key.proofs.Rules.{Met}

failed_at : (σ : State) → fails σ ≡ true → (t : ℕ) × ((thread_of σ t).local.failed ≡ true)
unfolding fails SC.failed_of unqueued
failed_at σ e = let r = SCFailing.fails_at (without_queues σ) e in (r.0, ap (λ (h : SC.Thread). h.local.failed) (sym (seen_thread σ r.0)) ∙ r.1)

failed_of_lem : (σ : State) (t : ℕ) → (thread_of σ t).local.failed ≡ true → fails σ ≡ true
unfolding fails SC.failed_of unqueued
failed_of_lem σ t e = SCFailing.fails_of (without_queues σ) t (ap (λ (h : SC.Thread). h.local.failed) (seen_thread σ t) ∙ e)

module _ (σ : State) (k : Kind) (t : ℕ) (m : able k (thread_of σ t) (length σ.cells) ≡ true) where
  abbrev own : Thread
  own = thread_behind k t (thread_of σ t) (cell_of σ (place σ k t))

  -- the thread that steps has failed behind it: it had before, or the step fails
  own_fails : (j : Kind) → (thread_behind j t (thread_of σ t) (cell_of σ (place σ j t))).local.failed ≡ true → (fails σ || breaks_by j σ t) ≡ true
  unfolding thread_behind breaks_by
  own_fails access e = or_right (fails σ) _ e
  own_fails move e = or_left (fails σ) false (failed_of_lem σ t e)

  fails_on : fails (step_of σ k t) ≡ true → (fails σ || breaks_by k σ t) ≡ true
  fails_on e = let r = failed_at (step_of σ k t) e in go r.0 r.1 (ℕ_discrete r.0 t)
    where
      go : (u : ℕ) → (thread_of (step_of σ k t) u).local.failed ≡ true → Dec (u ≡ t) → (fails σ || breaks_by k σ t) ≡ true
      go u f (no ne) = or_left (fails σ) (breaks_by k σ t) (failed_of_lem σ u (ap (λ (h : Thread). h.local.failed) (sym (thread_other σ k t u ne)) ∙ f))
      go u f (yes q) = own_fails k (ap (λ (h : Thread). h.local.failed) (sym (thread_own σ k t (able_range σ k t (length σ.cells) m))) ∙ ap (λ (i : ℕ). (thread_of (step_of σ k t) i).local.failed) (sym q) ∙ f)

  broke : (j : Kind) → breaks_by j σ t ≡ true → (thread_behind j t (thread_of σ t) (cell_of σ (place σ j t))).local.failed ≡ true
  unfolding thread_behind breaks_by
  broke access e = e
  broke move e = absurd (false≢true e)

  fails_by_lem : breaks_by k σ t ≡ true → fails (step_of σ k t) ≡ true
  fails_by_lem e = failed_of_lem (step_of σ k t) t (ap (λ (h : Thread). h.local.failed) (thread_own σ k t (able_range σ k t (length σ.cells) m)) ∙ broke k e)

pub breaks_law : (p : Program) → WellFormed p → (cut : Schedule → State → ℕ → Bool) → Breaks TSO cut (Met p) fails breaks
unfolding breaks step
breaks_law p w cut v σ r b m c = equal_tests (fails (step σ b)) (fails σ || breaks σ b)
    (fails_on σ (kind_of b) (owner b) (enabled_able σ b m))
    (λ e. ⊎_elim (λ (i : fails σ ≡ true). subst (λ (ρ : State). fails (step ρ b) ≡ true) (sym r.0)
    (stays_failed p w v b r.1 (subst (λ (ρ : State). enabled ρ b ≡ true) r.0 m) (ap fails (sym r.0) ∙ i)))
    (λ i. fails_by_lem σ (kind_of b) (owner b) (enabled_able σ b m) i) (either (fails σ) (breaks σ b) e))
