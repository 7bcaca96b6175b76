-- POSITIONS BEHIND WHICH THE SEARCH DOES THE SAME: prefixes with the states they led to, related so that the same bytes may step, the same are
-- cut, the same steps fail, and they are related again behind each step that is taken. A key decides if two positions of the search with one
-- key are so related.
use Rattle.std.specs.Prelude.{ℕ, ◌≡◌, Bool, true, false, [], ◌∷◌, ◌++◌}
use Rattle.spec_schedules.specs.Order.{Schedule}
use Rattle.spec_schedules.specs.System.{System}

module _ (M : System) (cut : Schedule → M.State → ℕ → Bool) (breaks : M.State → ℕ → Bool) where
  pub record Bisimulation (R : Schedule → M.State → Schedule → M.State → Type 0) : Type 0 where
    pub enabled : (v : Schedule) (σ : M.State) (w : Schedule) (τ : M.State) → R v σ w τ → (t : ℕ) → M.enabled σ t ≡ M.enabled τ t
    pub cuts : (v : Schedule) (σ : M.State) (w : Schedule) (τ : M.State) → R v σ w τ → (t : ℕ) → M.enabled σ t ≡ true → cut v σ t ≡ cut w τ t
    pub fails : (v : Schedule) (σ : M.State) (w : Schedule) (τ : M.State) → R v σ w τ → (t : ℕ) → M.enabled σ t ≡ true → cut v σ t ≡ false →
        breaks σ t ≡ breaks τ t
    pub steps : (v : Schedule) (σ : M.State) (w : Schedule) (τ : M.State) → R v σ w τ → (t : ℕ) → M.enabled σ t ≡ true → cut v σ t ≡ false →
        R (v ++ (t ∷ [])) (M.step σ t) (w ++ (t ∷ [])) (M.step τ t)

  pub record Decides {K : Type 0} (Met : Schedule → M.State → Type 0) (key : Schedule → M.State → K) : Type 1 where
    pub R : Schedule → M.State → Schedule → M.State → Type 0
    pub bisimulation : Bisimulation R
    pub related : (v : Schedule) (σ : M.State) (w : Schedule) (τ : M.State) → Met v σ → Met w τ → key v σ ≡ key w τ → R v σ w τ
