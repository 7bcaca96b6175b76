-- Steps that can be turned round, and a step that is independent of all that stands before it: `I σ a t` says that in σ the steps a and t are.
use mathlib.Core.Path.{◌≡◌}
use mathlib.Core.Logic.{◌≢◌}
use mathlib.Core.Bool.{true}
use mathlib.Core.List.{[], ◌∷◌}
use Prim.Native.Nat.{ℕ}
use Rattle.spec_schedules.specs.Order.{Schedule}
use Rattle.spec_schedules.specs.System.{System}

-- a, then t can be turned round: t may step first, a behind it, and the state is the same
abbrev pub Commute : (M : System) → M.State → ℕ → ℕ → Type 0
Commute M σ a t = (M.enabled σ t ≡ true) × (M.enabled (M.step σ t) a ≡ true) × (M.step (M.step σ a) t ≡ M.step (M.step σ t) a)

-- t is independent of each of these steps, as they are taken
abbrev pub Free : (M : System) → (M.State → ℕ → ℕ → Type 0) → M.State → Schedule → ℕ → Type 0
Free M I σ [] t = Unit {0}
Free M I σ (a ∷ z) t = (a ≢ t) × I σ a t × Free M I (M.step σ a) z t
