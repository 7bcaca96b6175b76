-- `most_live` goes through the thread's rows. The invariant: no row passed has more.
use Rattle.std.proofs.Common.{ℕ, ◌+◌, ◌*◌, ◌<◌, ◌≤◌, length, get_or}
use Rattle.spec_schedules.specs.Lists.{range, filter}
use Rattle.spec_schedules.specs.Sets.{has}
use Rattle.states_live.proofs.measuring.most_live.Given as goal

abbrev pub invariant-loop-i : goal.invariant-loop-i
invariant-loop-i l = (l.most ≤ 4) × ((j : ℕ) → j < l.i → length (filter (has (get_or l.masks (l.t * 16 + j) 0)) (range 0 4)) ≤ l.most)
