-- A strategy made of strategies behind each first step.
use Prim.Native.Nat.{ℕ}
use mathlib.Core.Path.{◌≡◌, refl, sym, ap, subst, ◌∙◌}
use mathlib.Core.Bool.{Bool, true, false, true≢false}
use mathlib.Core.List.{List, [], ◌∷◌, ◌++◌}
use Rattle.spec_schedules.specs.Order.{Schedule}
use Rattle.spec_schedules.specs.System.{Lawful, run, ended}
use Rattle.spec_force.specs.Game.{Side, other, Game, Strategy, mine, mover, winner, FullPlay, stepper, IsStrategy, Follows, Forces}
use Rattle.spec_force.proofs.Against.{turn_behind, follows_head, follows_tail}

-- the strategy with first step t, and behind a first step u what the strategy for u says
unfoldable pub composed : ℕ → (ℕ → Strategy) → Strategy
composed t h [] = t
composed t h (u ∷ v) = h u v

module _ (G : Game) (y x : Side) (σ : G.system.State) where
  -- behind the first step u: a strategy; it wins if the step is good
  pub record Behind (Good : ℕ → Type 0) (u : ℕ) : Type 0 where
    pub strategy : Strategy
    pub own : mine G (mover G x σ) σ u ≡ true → IsStrategy G y (turn_behind G x σ) (G.system.step σ u) strategy
    pub wins : mine G (mover G x σ) σ u ≡ true → Good u → (s : Schedule) → FullPlay G (turn_behind G x σ) (G.system.step σ u) s
        → Follows G y (turn_behind G x σ) (G.system.step σ u) strategy s
        → winner G (run G.system (G.system.step σ u) s) ≡ y

  module _ (Good : ℕ → Type 0) (h : (u : ℕ) → Behind Good u) (first : ℕ) where
    abbrev f : Strategy
    f = composed first (λ u. (h u).strategy)

    composed_own : (mover G x σ ≡ y → mine G y σ first ≡ true) → IsStrategy G y x σ f
    unfolding composed run stepper
    composed_own m [] p e k = m k
    composed_own m (u ∷ v) p e k = (h u).own p.0 v p.1 e k

    composed_wins : ended G.system σ ≡ false
        → ((t : ℕ) → mine G (mover G x σ) σ t ≡ true → (mover G x σ ≡ y → t ≡ first) → Good t)
        → (s : Schedule) → FullPlay G x σ s → Follows G y x σ f s → winner G (run G.system σ s) ≡ y
    unfolding composed run
    composed_wins e g [] p k = absurd (true≢false (sym p ∙ e))
    composed_wins e g (t ∷ s) p k =
        (h t).wins p.0 (g t p.0 (follows_head G y x σ f t s k)) s p.1 (follows_tail G y x σ f t s k)

    -- where it is good in any case, the side can force
    pub composed_forces : ended G.system σ ≡ false → (mover G x σ ≡ y → mine G y σ first ≡ true)
        → ((t : ℕ) → mine G (mover G x σ) σ t ≡ true → (mover G x σ ≡ y → t ≡ first) → Good t) → Forces G y x σ
    composed_forces e m g = record { strategy = f; own = composed_own m; wins = composed_wins e g }
