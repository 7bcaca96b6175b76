-- POSITIONS of a search: a prefix and the state that it led to. What it meets it goes on from, by each step that may be taken and is not cut.
use Rattle.std.specs.Prelude.{ℕ, ◌≡◌, Bool, true, false, ◌||◌, [], ◌∷◌, ◌++◌}
use Rattle.spec_schedules.specs.Order.{Schedule}
use Rattle.spec_schedules.specs.System.{System, run, Allowed}

-- from this state on: prefixes each of whose bytes may step in its turn
abbrev pub Reached : (M : System) → M.State → Schedule → M.State → Type 0
Reached M ρ v σ = (σ ≡ run M ρ v) × Allowed M ρ v

module _ (M : System) (cut : Schedule → M.State → ℕ → Bool) (Met : Schedule → M.State → Type 0) where
  abbrev pub GoesOn : Type 0
  GoesOn = (v : Schedule) (σ : M.State) → Met v σ → (t : ℕ) → M.enabled σ t ≡ true → cut v σ t ≡ false → Met (v ++ (t ∷ [])) (M.step σ t)

  -- `breaks` says which steps fail: a state has failed behind a step if it had before or the step fails
  abbrev pub Breaks : (M.State → Bool) → (M.State → ℕ → Bool) → Type 0
  Breaks fails breaks = (v : Schedule) (σ : M.State) → Met v σ → (t : ℕ) → M.enabled σ t ≡ true → cut v σ t ≡ false → fails (M.step σ t) ≡ (fails σ || breaks σ t)
