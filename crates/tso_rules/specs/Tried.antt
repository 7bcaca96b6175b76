-- The bytes that the search tries next: those that may step and that neither R1 nor R2 nor R2 far gives up.
use Rattle.std.specs.Prelude.{ℕ, Bool, not, ◌&&◌}
use Rattle.spec_file.specs.Program.{Program}
use Rattle.spec_schedules.specs.Lists.{range, any}
use Rattle.spec_schedules.specs.Order.{Schedule}
use Rattle.spec_tso.specs.State.{owner, enabled}
use Rattle.spec_tso.specs.Graph.{end_of}
use Rattle.spec_tso.specs.Actions.{action}
use Rattle.theory_tso.specs.Rules.{late, taken, twin}
use Rattle.theory_tso.specs.Far.{far}

unfoldable pub tried : Program → Schedule → ℕ → Bool
tried p v b =
    let σ = end_of p v in
    enabled σ b
    && (not (late (taken p v) (action σ b)) && (not (any (twin p σ (owner b)) (range 0 (owner b))) && not (far p v σ b)))
