-- An exchanged run does the exchanged steps.
use Prim.Native.Nat.{ℕ}
use mathlib.Core.Path.{◌≡◌, refl, ap₂}
use mathlib.Core.Bool.{Bool}
use mathlib.Core.List.{List, [], ◌∷◌, map}
use Rattle.spec_schedules.specs.Order.{Schedule}
use Rattle.spec_schedules.specs.System.{FullFrom}
use Rattle.spec_schedules.specs.Orders.{trace}
use Rattle.spec_sc.specs.State.{State, place, step, SC}
use Rattle.spec_sc.specs.Actions.{Action, writes, action}
use Rattle.spec_sc.proofs.ActionTerms.{actions}
use Rattle.spec_model.specs.Exchange.{Permutation}
use Rattle.spec_sc.specs.Exchange.{moved_thread, moved_cell, Moves}
use Rattle.spec_sc.proofs.ExchangeTerms.{moved_schedule}
use Rattle.spec_sc.specs.ExchangedActions.{moved_action}
use Rattle.spec_sc.proofs.Exchange.{moves_place, moves_cell, moves_step}

-- a step moved to another thread
pub moved_thread_lem : (π : ℕ → ℕ) (a : Action) → (moved_action π a).thread ≡ π a.thread
unfolding moved_action
moved_thread_lem π a = refl

pub moved_location : (π : ℕ → ℕ) (a : Action) → (moved_action π a).location ≡ a.location
unfolding moved_action
moved_location π a = refl

pub moved_wrote : (π : ℕ → ℕ) (a : Action) → (moved_action π a).wrote ≡ a.wrote
unfolding moved_action
moved_wrote π a = refl

module _ (π : ℕ → ℕ) (q : Permutation π) where
  moves_writes : (σ τ : State) → Moves π σ τ → (t : ℕ) → writes τ (π t) ≡ writes σ t
  unfolding writes moved_thread moved_cell
  moves_writes σ τ m t = rw (moves_place π q σ τ m t, moves_cell π q σ τ m (place σ t), m.threads t)

  pub moves_action : (σ τ : State) → Moves π σ τ → (t : ℕ) → action τ (π t) ≡ moved_action π (action σ t)
  unfolding action moved_action
  moves_action σ τ m t = ap₂ (λ (l : ℕ) (b : Bool). let a : Action = record { thread = π t; location = l; wrote = b } in a) (moves_place π q σ τ m t) (moves_writes σ τ m t)

  pub moves_actions : (z : Schedule) (σ τ : State) → Moves π σ τ → FullFrom SC σ z → actions τ (moved_schedule π z) ≡ map (moved_action π) (actions σ z)
  unfolding trace moved_schedule
  moves_actions [] σ τ m f = refl
  moves_actions (t ∷ z) σ τ m f = ap₂ (λ (a : Action) (acts : List Action). a ∷ acts) (moves_action σ τ m t) (moves_actions z (step σ t) (step τ (π t)) (moves_step π q σ τ m t f.0) f.1)

-- an exchanged schedule, step by step
pub moved_cons : (π : ℕ → ℕ) (t : ℕ) (z : Schedule) → moved_schedule π (t ∷ z) ≡ π t ∷ moved_schedule π z
unfolding moved_schedule
moved_cons π t z = refl
