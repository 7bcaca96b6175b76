-- What a schedule that a caller hands over comes to: 20 at its first byte that names no thread or an ended one, 21 with its length if it is
-- not full, and else the state at its end.
use Rattle.std.specs.Prelude.{ℕ, suc, true, false, [], ◌∷◌}
use Rattle.spec_file.specs.Program.{Program}
use Rattle.spec_schedules.specs.Order.{Schedule}
use Rattle.spec_schedules.specs.System.{ended}
use Rattle.spec_sc.specs.State.{State, step, enabled, SC, start}

pub data Replayed : Type 0 where
  whole : State → Replayed
  refused : ℕ → ℕ → Replayed

-- what carrying out a schedule comes to, behind k steps that led to this state
unfoldable pub replay_from : ℕ → State → Schedule → Replayed
replay_from k σ [] = elim (ended SC σ) [ true ↦ whole σ | false ↦ refused 21 k ]
replay_from k σ (t ∷ s) = elim (enabled σ t) [ true ↦ replay_from (suc k) (step σ t) s | false ↦ refused 20 k ]

unfoldable pub replay : Program → Schedule → Replayed
replay p s = replay_from 0 (start p) s
