-- `most_registers` adds up the most of each thread. The invariant: of the threads passed no more registers are live at any position.
use Rattle.std.proofs.Common.{◌*◌, ◌≤◌, length}
use Rattle.spec_schedules.specs.Lists.{range, filter}
use Rattle.spec_sc.specs.State.{State}
use Rattle.theory_sc_key.specs.Key.{live_at}
use Rattle.states_live.proofs.LiveCount.{Covered}
use Rattle.states_live.proofs.measuring.most_registers.Given as goal

abbrev pub invariant-loop-t : goal.invariant-loop-t
invariant-loop-t l = (l.sum ≤ 4 * l.t) × ((σ : State) → Covered l.masks σ → length (filter (live_at σ) (range 0 (4 * l.t))) ≤ l.sum)
