-- STATES FROM WHICH A GAME GOES ON ALIKE: the same may step, an assertion failed in both or in neither, and they stay so behind each step.
use Rattle.std.specs.Prelude.{ℕ, ◌≡◌, true}
use Rattle.spec_force.specs.Game.{Game}

pub record Alike (G : Game) (R : G.system.State → G.system.State → Type 0) : Type 0 where
  pub enabled : (σ τ : G.system.State) → R σ τ → (t : ℕ) → G.system.enabled σ t ≡ G.system.enabled τ t
  pub fails : (σ τ : G.system.State) → R σ τ → G.fails σ ≡ G.fails τ
  pub steps : (σ τ : G.system.State) → R σ τ → (t : ℕ) → G.system.enabled σ t ≡ true → R (G.system.step σ t) (G.system.step τ t)
