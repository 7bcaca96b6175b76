-- The set of the threads that have not ended: what a step leaves of it.
use Prim.Native.Nat.{ℕ, ◌-◌, ◌^◌}
use mathlib.Core.Path.{◌≡◌, refl, sym, ap, ◌∙◌}
use mathlib.Core.Bool.{Bool, true, false, cond}
use native.Mathlib.Omega.{arith}
use native.Mathlib.Decide.{ℕ_discrete}
use Rattle.spec_sc.specs.State.{State, step, enabled}
use Rattle.spec_sc.proofs.Steps.{enabled_small, enabled_other}
use Rattle.theory_sc.specs.Sets.{set_of}
use Rattle.theory_sc.proofs.Sets.{set_same, set_without}

-- ---- behind a step: its thread leaves the set where it has ended
pub live_more : (σ : State) (t : ℕ) → enabled σ t ≡ true → set_of (enabled (step σ t)) 6 ≡ cond (enabled (step σ t) t) (set_of (enabled σ) 6) (set_of (enabled σ) 6 - 2 ^ t)
live_more σ t ok = go (enabled (step σ t) t) refl
  where
    go : (b : Bool) → enabled (step σ t) t ≡ b → set_of (enabled (step σ t)) 6 ≡ cond (enabled (step σ t) t) (set_of (enabled σ) 6) (set_of (enabled σ) 6 - 2 ^ t)
    go true e = set_same (enabled (step σ t)) (enabled σ) 6 (λ u h. at u (ℕ_discrete u t)) ∙ sym (ap (λ (b : Bool). cond b (set_of (enabled σ) 6) (set_of (enabled σ) 6 - 2 ^ t)) e)
      where
        at : (u : ℕ) → Dec (u ≡ t) → enabled (step σ t) u ≡ enabled σ u
        at u (yes q) = ap (enabled (step σ t)) q ∙ e ∙ sym (ap (enabled σ) q ∙ ok)
        at u (no q) = enabled_other σ t u q
    go false e =
        let w = set_without (enabled σ) (enabled (step σ t)) t ok e (λ u q. sym (enabled_other σ t u q)) 6 (enabled_small σ t ok) in
        let z : set_of (enabled (step σ t)) 6 ≡ set_of (enabled σ) 6 - 2 ^ t = omega (arith, w) in
        z ∙ sym (ap (λ (b : Bool). cond b (set_of (enabled σ) 6) (set_of (enabled σ) 6 - 2 ^ t)) e)
