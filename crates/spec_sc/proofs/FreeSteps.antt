-- A step that is free of the steps before it, independent of each as it is taken, does behind them what it would have done before them.
use Prim.Native.Nat.{ℕ}
use mathlib.Core.Path.{◌≡◌, refl, ◌∙◌}
use mathlib.Core.Logic.{Ne-symm}
use mathlib.Core.List.{[], ◌∷◌}
use Rattle.spec_schedules.specs.Order.{Schedule}
use Rattle.spec_schedules.specs.System.{run}
use Rattle.spec_schedules.specs.Orders.{trace}
use Rattle.spec_schedules.proofs.Front.{Free}
use Rattle.spec_sc.specs.State.{State, place, step, SC}
use Rattle.spec_sc.specs.Actions.{writes, action}
use Rattle.spec_sc.proofs.ActionTerms.{actions}
use Rattle.spec_sc.proofs.Swap.{Independent, action_after}

-- what a step does
pub action_thread : (σ : State) (t : ℕ) → (action σ t).thread ≡ t
unfolding action
action_thread σ t = refl

pub action_location : (σ : State) (t : ℕ) → (action σ t).location ≡ place σ t
unfolding action
action_location σ t = refl

pub action_wrote : (σ : State) (t : ℕ) → (action σ t).wrote ≡ writes σ t
unfolding action
action_wrote σ t = refl

pub free_action : (z : Schedule) (σ : State) (t : ℕ) → Free SC Independent σ z t → action (run SC σ z) t ≡ action σ t
unfolding run
free_action [] σ t f = refl
free_action (a ∷ z) σ t f = free_action z (step σ a) t f.2 ∙ action_after σ a t (Ne-symm f.0) f.1

pub actions_nil : (σ : State) → actions σ [] ≡ []
unfolding trace
actions_nil σ = refl

pub actions_cons : (σ : State) (t : ℕ) (s : Schedule) → actions σ (t ∷ s) ≡ action σ t ∷ actions (step σ t) s
unfolding trace
actions_cons σ t s = refl
