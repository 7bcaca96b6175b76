-- WHO WINS where it is a side's turn, and how many steps and passes are enough to find out: twice as many as steps can come, and one more for a side
-- that has to pass.
use Rattle.std.specs.Prelude.{ℕ, ◌+◌, ◌*◌, ◌≤◌, ◌≡◌, true}
use Rattle.spec_force.specs.Game.{Side, other, Game, able}
use Rattle.spec_force.proofs.Value.{value}

module _ (G : Game) where
  -- by the recursion, of as many as can come
  unfoldable pub wins : Side → G.system.State → Side
  wins x σ = value G (2 * G.system.size σ + 1) x σ

  -- k are enough where it is x's turn: x has a step, or passes and the other side has one
  pub record Enough (k : ℕ) (x : Side) (σ : G.system.State) : Type 0 where
    pub stepping : able G x σ ≡ true → 2 * G.system.size σ ≤ k
    pub passing : able G (other x) σ ≡ true → 2 * G.system.size σ + 1 ≤ k
