-- Where only bytes that may step fit, the greedy walk names only bytes that may step.
use Prim.Native.Nat.{ℕ, zero, suc}
use mathlib.Core.Path.{◌≡◌, refl}
use mathlib.Core.Bool.{Bool, true}
use mathlib.Core.Option.{Option, none, some}
use mathlib.Core.List.{[], ◌∷◌}
use Rattle.spec_schedules.specs.Lists.{find}
use Rattle.spec_schedules.specs.System.{System, Allowed}
use Rattle.spec_schedules.specs.Greedy.{greedy}
use Rattle.spec_schedules.proofs.First.{find_passes}

pub greedy_allowed : (M : System) (f : M.State → ℕ → Bool) → ((σ : M.State) (t : ℕ) → f σ t ≡ true → M.enabled σ t ≡ true) → (k : ℕ) (σ : M.State) → Allowed M σ (greedy M f k σ)
unfolding greedy
greedy_allowed M f a zero σ = tt
greedy_allowed M f a (suc k) σ = go (find (f σ) M.names) refl (λ τ. greedy_allowed M f a k τ)
  where
    go : (o : Option ℕ) → find (f σ) M.names ≡ o → ((τ : M.State) → Allowed M τ (greedy M f k τ)) →
        Allowed M σ (elim o [ none ↦ [] | some t ↦ t ∷ greedy M f k (M.step σ t) ])
    go none e ih = tt
    go (some t) e ih = (a σ t (find_passes (f σ) M.names t e), ih (M.step σ t))
