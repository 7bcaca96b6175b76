-- The greedy walk: the least fitting byte, taken again and again. `fits` says which bytes may go next for the sake of a goal;
-- the laws say when the walk is the least full schedule that ends in the goal.
use Rattle.std.specs.Prelude.{ℕ, zero, suc, ◌≡◌, Bool, true, [], ◌∷◌}
use Rattle.std.proofs.Math.Option.{none, some}
use Rattle.spec_schedules.specs.Lists.{find}
use Rattle.spec_schedules.specs.Order.{Schedule}
use Rattle.spec_schedules.specs.System.{System}

-- the walk, of at most so many steps; it stops where nothing fits
unfoldable pub greedy : (M : System) → (M.State → ℕ → Bool) → ℕ → M.State → Schedule
greedy M fits zero σ = []
greedy M fits (suc k) σ = elim (find (fits σ) M.names) [ none ↦ [] | some t ↦ t ∷ greedy M fits k (M.step σ t) ]

-- each byte fits in its turn, and the goal holds behind the last
abbrev pub Fitting : (M : System) → (M.State → ℕ → Bool) → (M.State → Type 0) → M.State → Schedule → Type 0
Fitting M fits Goal σ [] = Goal σ
Fitting M fits Goal σ (t ∷ s) = (fits σ t ≡ true) × Fitting M fits Goal (M.step σ t) s
