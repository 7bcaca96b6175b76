-- Refusals of a schedule are small: its place is at most 24, since before it every byte could step, and no program's run has more steps.
use Prim.Native.Nat.{◌≤◌}
use mathlib.Core.Path.{◌≡◌, refl, sym, subst}
use native.Mathlib.Omega.{arith}
use Rattle.spec_file.specs.Program.{Program}
use Rattle.spec_file.specs.WellFormed.{WellFormed}
use Rattle.spec_schedules.specs.Order.{Schedule}
use Rattle.spec_schedules.proofs.Runs.{allowed_length}
use Rattle.spec_sc.specs.State.{SC, start}
use Rattle.spec_sc.specs.Graph.{Full, end_of}
use Rattle.spec_sc.specs.Replay.{Replayed, whole, refused, replay_from, replay}
use Rattle.spec_sc.proofs.Lawful.{lawful, start_24}
use Rattle.spec_sc.proofs.Replay.{Outcome, full, stops, short, outcome}

-- no number above 21, no place above 24; a state is that at the end of a full schedule
abbrev pub Within : Program → Schedule → Replayed → Type 0
Within p s (whole σ) = Full p s × (σ ≡ end_of p s)
Within p s (refused n k) = (n ≤ 21) × (k ≤ 24)

pub replay_within : (p : Program) → WellFormed p → (s : Schedule) → Within p s (replay p s)
unfolding replay
replay_within p w s = go (outcome s 0 (start p))
  where
    go : Outcome 0 (start p) s → Within p s (replay_from 0 (start p) s)
    go (full f q) = subst (Within p s) (sym q) (f, refl)
    go (stops u h q) = subst (Within p s) (sym q) (omega arith, omega (arith, allowed_length SC lawful (start p) u h.3, start_24 p w))
    go (short a d q) = subst (Within p s) (sym q) (omega arith, omega (arith, allowed_length SC lawful (start p) s a, start_24 p w))
