-- A survivor under total store order: a full schedule none of whose steps is late (R1), of a thread that has a smaller twin there (R2), or
-- a move that could have been a smaller twin's at an earlier place (R2 far).
use Rattle.std.specs.Prelude.{ℕ, ◌≡◌, false, ◌∷◌, ◌++◌}
use Rattle.spec_file.specs.Program.{Program}
use Rattle.spec_schedules.specs.Lists.{range, any}
use Rattle.spec_schedules.specs.Order.{Schedule}
use Rattle.spec_tso.specs.State.{owner}
use Rattle.spec_tso.specs.Graph.{end_of}
use Rattle.spec_tso.specs.Actions.{action}
use Rattle.theory_tso.specs.Rules.{late, taken, twin}
use Rattle.theory_tso.specs.Far.{far}

abbrev pub Survives : Program → Schedule → Type 0
Survives p w = (v : Schedule) (b : ℕ) (z : Schedule) → w ≡ v ++ (b ∷ z) →
    (late (taken p v) (action (end_of p v) b) ≡ false)
    × (any (twin p (end_of p v) (owner b)) (range 0 (owner b)) ≡ false)
    × (far p v (end_of p v) b ≡ false)
