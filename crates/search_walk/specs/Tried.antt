-- Which next steps the search tries.
use Rattle.std.specs.Prelude.{ℕ, Bool, not, ◌&&◌}
use Rattle.spec_file.specs.Program.{Program}
use Rattle.spec_schedules.specs.Lists.{range, any}
use Rattle.spec_schedules.specs.Order.{Schedule}
use Rattle.spec_sc.specs.State.{enabled}
use Rattle.spec_sc.specs.Graph.{end_of}
use Rattle.theory_sc.specs.Rules.{twin}
use Rattle.spec_schedules.specs.Sets.{has}
use Rattle.theory_sc.specs.LateSet.{late_set}

-- t has not ended, is not late (R1) and has no smaller twin (R2) behind v
unfoldable pub tried : Program → Schedule → ℕ → Bool
tried p v t = enabled (end_of p v) t && (not (has (late_set p v) t) && not (any (twin p (end_of p v) t) (range 0 t)))
