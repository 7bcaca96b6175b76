-- `ended_all` asks one thread after the other. The invariant: those before t have ended and have nothing pending.
use Rattle.std.proofs.Common.{ℕ, ◌<◌, ◌≤◌, get_or}
use Rattle.machine.specs.Held.{thread_at}
use Rattle.tso_machine.specs.Held.{core_of, head_at, tail_at}
use Rattle.tso_machine.proofs.asking.ended_all.Given as goal

abbrev pub invariant-loop-t : goal.invariant-loop-t
invariant-loop-t l = (l.t ≤ 6) × ((u : ℕ) → u < l.t → (get_or l.lengths u 0 ≤ (thread_at (core_of l.m) u).at) × (tail_at l.m u ≤ head_at l.m u))
