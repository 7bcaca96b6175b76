-- `chosen` asks one thread after the other. The invariant: none so far fits.
use Rattle.std.proofs.Common.{ℕ, ◌<◌, ◌≡◌, false}
use Rattle.spec_file.specs.Program.{Program}
use Rattle.spec_schedules.specs.Order.{Schedule}
use Rattle.spec_schedules.specs.System.{run}
use Rattle.spec_sc.specs.State.{SC, start}
use Rattle.spec_sc.specs.Graph.{Graph}
use Rattle.spec_judge.specs.Consistent.{location_of}
use Rattle.spec_judge.proofs.RoundValues.{final_values}
use Rattle.spec_judge.proofs.Walk.{fits}
use Rattle.judge_next.specs.HeldWalk.{Walking}
use Rattle.judge_next.proofs.choosing.chosen.Given as goal

abbrev pub invariant-loop-t : goal.invariant-loop-t
invariant-loop-t l =
    (p : Program) (g : Graph) (s : Schedule) → Walking l.program.code l.program.lengths l.program.threads l.pairs l.places p g l.m l.counts s →
    (u : ℕ) → u < l.t → fits g (location_of p (final_values p g)) (run SC (start p) s) u ≡ false
