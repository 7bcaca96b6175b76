-- ENOUGH STEPS AND PASSES: whoever wins by them wins by any number that is enough, and so from every state that goes on alike.
use Prim.Native.Nat.{ℕ, zero, suc, ◌+◌, ◌-◌, ◌*◌, ◌≤◌}
use mathlib.Core.Path.{◌≡◌, refl, sym, ap, subst, ◌∙◌}
use mathlib.Core.Bool.{Bool, true, false, true≢false}
use native.Mathlib.Omega.{arith}
use native.Mathlib.Nat.{le_refl}
use Rattle.spec_schedules.specs.System.{Lawful}
use Rattle.spec_force.specs.Game.{Side, other, same, Game, mine, able}
use Rattle.spec_force.proofs.Value.{keeps_by, best, value}
use Rattle.spec_force.proofs.Sides.{other_other, mine_enabled, able_some, able_of}
use Rattle.spec_force.proofs.Determined.{value_able, value_forces, forces_value}
use Rattle.theory_game.specs.Alike.{Alike}
use Rattle.theory_game.specs.Wins.{wins, Enough}
use Rattle.theory_game.proofs.Alike.{keeps_alike, best_alike, mine_alike, value_alike}

module _ (G : Game) (L : Lawful G.system) where
  abbrev S : Type 0
  S = G.system.State

  -- ---- by any numbers that are enough
  pub value_wins : (k : ℕ) (x : Side) (σ : S) → 2 * G.system.size σ + 1 ≤ k → value G k x σ ≡ wins G x σ
  unfolding wins
  value_wins k x σ h = forces_value G L k x σ (value G (2 * G.system.size σ + 1) x σ) h (value_forces G L (2 * G.system.size σ + 1) x σ (le_refl (2 * G.system.size σ + 1)))

  -- where it has a step one less is
  pub enough_wins : (k : ℕ) (x : Side) (σ : S) → able G x σ ≡ true → Enough G k x σ → value G k x σ ≡ wins G x σ
  unfolding wins
  enough_wins k x σ a h = go k (h.stepping a)
    where
      n : ℕ
      n = G.system.size σ

      one : 2 * n + 1 ≡ suc (2 * n)
      one = omega arith

      go : (k : ℕ) → 2 * n ≤ k → value G k x σ ≡ value G (2 * n + 1) x σ
      go zero b = let t = able_some G x σ a in absurd (omega (arith, b, L.falls σ t.0 (mine_enabled G x σ t.0 t.1)))
      go (suc j) b =
          value_able G j x σ a
          ∙ best_alike G (λ τ. value G j (other x) τ) (λ τ. value G (2 * n) (other x) τ) x σ σ (λ t. refl)
          (λ t m. let less = L.falls σ t (mine_enabled G x σ t m) in
          value_wins j (other x) (G.system.step σ t) (omega (arith, b, less)) ∙ sym (value_wins (2 * n) (other x) (G.system.step σ t) (omega (arith, less))))
          ∙ sym (ap (λ (i : ℕ). value G i x σ) one ∙ value_able G (2 * n) x σ a)

  -- ---- behind a step, and behind a pass
  pub enough_all : (k : ℕ) (x : Side) (σ : S) → 2 * G.system.size σ + 1 ≤ k → Enough G k x σ
  enough_all k x σ h = record { stepping = λ a. omega (arith, h); passing = λ a. h }

  pub enough_step : (k : ℕ) (x : Side) (σ : S) (t : ℕ) → Enough G k x σ → mine G x σ t ≡ true → Enough G (k - 1) (other x) (G.system.step σ t)
  enough_step k x σ t h m =
      let less = L.falls σ t (mine_enabled G x σ t m) in
      let b = h.stepping (able_of G L x σ t m) in
      enough_all (k - 1) (other x) (G.system.step σ t) (omega (arith, less, b))

  pub enough_pass : (k : ℕ) (x : Side) (σ : S) → Enough G k x σ → able G x σ ≡ false → Enough G (k - 1) (other x) σ
  enough_pass k x σ h n = record {
    stepping = λ a. omega (arith, h.passing a);
    passing = λ a. absurd (true≢false (sym (subst (λ (y : Side). able G y σ ≡ true) (other_other x) a) ∙ n));
  }

  -- ---- FROM STATES THAT GO ON ALIKE
  module _ (R : S → S → Type 0) (A : Alike G R) where
    -- the same side wins
    pub wins_alike : (x : Side) (σ τ : S) → R σ τ → wins G x σ ≡ wins G x τ
    wins_alike x σ τ r =
        let k : ℕ = 2 * G.system.size σ + 1 + (2 * G.system.size τ + 1) in
        sym (value_wins k x σ (omega arith)) ∙ value_alike G R A k x σ τ r ∙ value_wins k x τ (omega arith)

    -- by the same first steps
    pub first_alike : (x : Side) (σ τ : S) → R σ τ → (t : ℕ) → keeps_by G (λ ρ. wins G (other x) ρ) x σ t ≡ keeps_by G (λ ρ. wins G (other x) ρ) x τ t
    first_alike x σ τ r t =
        keeps_alike G (λ ρ. wins G (other x) ρ) (λ ρ. wins G (other x) ρ) x σ τ t (mine_alike G R A σ τ r x t)
        (λ m. wins_alike (other x) (G.system.step σ t) (G.system.step τ t) (A.steps σ τ r t (mine_enabled G x σ t m)))
