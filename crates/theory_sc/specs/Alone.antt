-- Where one thread alone has not ended.
use Rattle.std.specs.Prelude.{ℕ, ◌≡◌, ◌≢◌, true, false}
use Rattle.spec_sc.specs.State.{State, enabled}

-- only t may step
pub record Alone (σ : State) (t : ℕ) : Type 0 where
  pub live : enabled σ t ≡ true
  pub others : (u : ℕ) → u ≢ t → enabled σ u ≡ false
