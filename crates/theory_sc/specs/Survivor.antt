-- A survivor: a full schedule none of whose steps is late (R1) or taken while a smaller twin stands where its thread stands (R2).
use Rattle.std.specs.Prelude.{ℕ, ◌≡◌, false, ◌∷◌, ◌++◌}
use Rattle.spec_file.specs.Program.{Program}
use Rattle.spec_schedules.specs.Lists.{range, any}
use Rattle.spec_schedules.specs.Order.{Schedule}
use Rattle.spec_sc.specs.Graph.{end_of}
use Rattle.spec_sc.specs.Actions.{action}
use Rattle.theory_sc.specs.Rules.{late, taken, twin}

abbrev pub Survives : Program → Schedule → Type 0
Survives p w = (v : Schedule) (t : ℕ) (z : Schedule) → w ≡ v ++ (t ∷ z) →
    (late (taken p v) (action (end_of p v) t) ≡ false) × (any (twin p (end_of p v) t) (range 0 t) ≡ false)
