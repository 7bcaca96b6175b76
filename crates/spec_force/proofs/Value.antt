-- Who can force, worked out: of so many steps and passes. Where a side is to step it wins if some step of its own leads to where it wins.
use Prim.Native.Nat.{ℕ, zero, suc}
use mathlib.Core.Bool.{Bool, true, false}
use Rattle.spec_schedules.specs.Lists.{both, any}
use Rattle.spec_force.specs.Game.{Side, Game, other, same, mine, able, winner}

module _ (G : Game) where
  -- t is a step of y, behind which y wins, as `f` says
  unfoldable pub keeps_by : (G.system.State → Side) → Side → G.system.State → ℕ → Bool
  keeps_by f y σ t = both (mine G y σ t) (same (f (G.system.step σ t)) y)

  -- y is to step: it wins if one of its steps does
  unfoldable pub best : (G.system.State → Side) → Side → G.system.State → Side
  best f y σ = elim (any (keeps_by f y σ) G.system.names) [ true ↦ y | false ↦ other y ]

  -- who wins where it is x's turn
  unfoldable pub value : ℕ → Side → G.system.State → Side
  value zero x σ = winner G σ
  value (suc k) x σ = elim (able G x σ) [ true ↦ best (λ τ. value k (other x) τ) x σ | false ↦ value k (other x) σ ]
