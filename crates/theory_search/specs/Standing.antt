-- Where a thread stands, as tests: whether two local states are the same, and whether a thread has written nothing yet.
use Rattle.std.specs.Prelude.{ℕ, Bool, true, false, not, ◌&&◌, eqb, length}
use Rattle.spec_schedules.specs.Lists.{all}
use Rattle.spec_sc.specs.Local.{Local}
use Rattle.spec_sc.specs.State.{Event, Cell, State}
use Rattle.spec_file.specs.Lists.{same_list}

unfoldable pub same_flag : Bool → Bool → Bool
same_flag true b = b
same_flag false b = not b

-- two local states have as much code left, the same registers, and the same outcome so far
unfoldable pub same_local : Local → Local → Bool
same_local h k = eqb (length h.rest) (length k.rest)
    && (same_list eqb h.registers k.registers && same_flag h.failed k.failed)

-- thread u has written nothing
unfoldable pub silent : State → ℕ → Bool
silent σ u = all (λ (c : Cell). all (λ (e : Event). not (eqb e.0 u)) c.writes) σ.cells
