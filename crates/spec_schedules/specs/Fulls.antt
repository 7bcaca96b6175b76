-- All full schedules from a state, ascending: for each byte that may step, in the order of the names, that byte in front of
-- each full schedule from the state behind its step.
use Rattle.std.specs.Prelude.{ℕ, zero, suc, true, false, List, [], ◌∷◌, ◌++◌}
use Rattle.spec_schedules.specs.Order.{Schedule}
use Rattle.spec_schedules.specs.System.{System, ended}

-- a byte in front of each of these
unfoldable pub fronts : ℕ → List Schedule → List Schedule
fronts t [] = []
fronts t (s ∷ ss) = (t ∷ s) ∷ fronts t ss

-- what `f` gives behind each of these bytes that may step, with that byte in front
unfoldable pub branch : (M : System) → (M.State → List Schedule) → M.State → List ℕ → List Schedule
branch M f σ [] = []
branch M f σ (t ∷ ts) = elim (M.enabled σ t) [ true ↦ fronts t (f (M.step σ t)) ++ branch M f σ ts | false ↦ branch M f σ ts ]

-- the full schedules of at most so many steps
unfoldable pub fulls_from : (M : System) → ℕ → M.State → List Schedule
fulls_from M zero σ = elim (ended M σ) [ true ↦ [] ∷ [] | false ↦ [] ]
fulls_from M (suc k) σ = elim (ended M σ) [ true ↦ [] ∷ [] | false ↦ branch M (λ τ. fulls_from M k τ) σ M.names ]

-- all full schedules: the size bounds their steps
unfoldable pub fulls : (M : System) → M.State → List Schedule
fulls M σ = fulls_from M (M.size σ) σ
