-- What is reached from a state: the state itself, and what a step leads to.
use Prim.Native.Nat.{ℕ}
use mathlib.Core.Path.{◌≡◌, sym, ap, subst, ◌∙◌}
use mathlib.Core.Bool.{true}
use mathlib.Core.List.{[], ◌∷◌, ◌++◌}
use Rattle.spec_schedules.specs.Order.{Schedule}
use Rattle.spec_schedules.specs.System.{System}
use Rattle.spec_schedules.proofs.Runs.{run_nil, run_snoc, allowed_join}
use Rattle.theory_states.specs.Positions.{Reached}

module _ (M : System) (ρ : M.State) where
  pub reached_start : Reached M ρ [] ρ
  reached_start = (sym (run_nil M ρ), tt)

  pub reached_on : (v : Schedule) (σ : M.State) → Reached M ρ v σ → (t : ℕ) → M.enabled σ t ≡ true → Reached M ρ (v ++ (t ∷ [])) (M.step σ t)
  reached_on v σ r t e = (
    ap (λ (τ : M.State). M.step τ t) r.0 ∙ sym (run_snoc M ρ v t),
    allowed_join M ρ v (t ∷ []) r.1 (subst (λ (τ : M.State). M.enabled τ t ≡ true) r.0 e, tt),
  )
