-- The bound and the cut of a search through the runs of a step system: along the bound's own path no byte is smaller than its, and a cut
-- gives up only what leads to no listed full schedule.
use Rattle.std.specs.Prelude.{ℕ, ◌≡◌, Bool, true, false, [], ◌∷◌, ◌++◌, eqb}
use Rattle.std.proofs.Math.Option.{Option, none, some}
use Rattle.spec_schedules.specs.Order.{Schedule}
use Rattle.spec_schedules.specs.System.{System, run, FullFrom}

-- the first byte to try: the bound's own, while the path runs along it
unfoldable pub low : Option Schedule → ℕ
low none = 0
low (some []) = 0
low (some (b ∷ bs)) = b

-- what is left of the bound behind the step t; none: the path is above it
unfoldable pub past : Option Schedule → ℕ → Option Schedule
past none t = none
past (some []) t = none
past (some (b ∷ bs)) t = elim (eqb b t) [ true ↦ some bs | false ↦ none ]

-- what a cut must satisfy, in the runs from ρ: a prefix and a next byte that are cut lead to no listed full schedule
abbrev pub SoundCut : (M : System) → M.State → (Schedule → M.State → ℕ → Bool) → (Schedule → Bool) → Type 0
SoundCut M ρ cut listed = (v : Schedule) (t : ℕ) (z : Schedule) → cut v (run M ρ v) t ≡ true → FullFrom M ρ (v ++ (t ∷ z))
    → listed (v ++ (t ∷ z)) ≡ false

-- no step of the schedule is cut, in the run from ρ
abbrev pub Uncut : (M : System) → M.State → (Schedule → M.State → ℕ → Bool) → Schedule → Type 0
Uncut M ρ cut s = (v : Schedule) (t : ℕ) (z : Schedule) → s ≡ v ++ (t ∷ z) → cut v (run M ρ v) t ≡ false
