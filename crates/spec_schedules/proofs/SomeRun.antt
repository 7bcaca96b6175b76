-- Every state of a lawful step system has a full schedule: while a byte may step, take it; each step lowers the size.
use Prim.Native.Nat.{ℕ, zero, suc, ◌≤◌}
use mathlib.Core.Path.{◌≡◌, refl}
use mathlib.Core.Bool.{Bool, true, false, true≢false}
use mathlib.Core.List.{List, [], ◌∷◌}
use native.Mathlib.Omega.{arith}
use Rattle.spec_schedules.specs.Order.{Schedule}
use Rattle.spec_schedules.specs.System.{System, Lawful, none_enabled, ended, FullFrom}

module _ (M : System) (L : Lawful M) where
  -- where the run has not ended some byte may step
  some_enabled : (σ : M.State) (ts : List ℕ) → none_enabled M σ ts ≡ false → (t : ℕ) × (M.enabled σ t ≡ true)
  unfolding none_enabled
  some_enabled σ [] e = absurd (true≢false e)
  some_enabled σ (t ∷ ts) e = go (M.enabled σ t) refl (λ k. some_enabled σ ts k)
    where
      go : (b : Bool) → M.enabled σ t ≡ b → (none_enabled M σ ts ≡ false → (u : ℕ) × (M.enabled σ u ≡ true)) → (u : ℕ) × (M.enabled σ u ≡ true)
      go true q ih = (t, q)
      go false q ih = ih (rw (q, none_enabled) at e)

  pub some_full : (k : ℕ) (σ : M.State) → M.size σ ≤ k → (s : Schedule) × FullFrom M σ s
  unfolding ended
  some_full zero σ h = go (ended M σ) refl
    where
      go : (b : Bool) → ended M σ ≡ b → (s : Schedule) × FullFrom M σ s
      go true e = ([], e)
      go false e = let t = some_enabled σ M.names e in absurd (omega (arith, L.falls σ t.0 t.1))
  some_full (suc k) σ h = go (ended M σ) refl (λ τ i. some_full k τ i)
    where
      go : (b : Bool) → ended M σ ≡ b → ((τ : M.State) → M.size τ ≤ k → (s : Schedule) × FullFrom M τ s) → (s : Schedule) × FullFrom M σ s
      go true e ih = ([], e)
      go false e ih =
          let t = some_enabled σ M.names e in
          let r = ih (M.step σ t.0) (omega (arith, L.falls σ t.0 t.1)) in
          (t.0 ∷ r.0, (t.1, r.1))
