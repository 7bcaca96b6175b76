-- `some_asleep` goes round until no thread leaves the set. The invariants: the counters of the threads before t are taken; what is left of the
-- set has the same sleepers.
use Rattle.std.proofs.Common.{ℕ, ◌<◌, ◌≡◌, length, get_or}
use Rattle.machine.specs.Held.{idle}
use Rattle.spec_sc.specs.State.{State}
use Rattle.theory_sc.specs.Sleepers.{sleepers}
use Rattle.search_rules.specs.Left.{Rests}
use Rattle.search_rules.proofs.sleeping.some_asleep.Given as goal

abbrev pub invariant-loop-t : goal.invariant-loop-t
invariant-loop-t l = (length l.at ≡ 6) × ((u : ℕ) → u < l.t → get_or l.at u 0 ≡ (get_or l.threads u idle).at)

abbrev pub invariant-loop-set : goal.invariant-loop-set
invariant-loop-set l = (l.set < 64) × ((σ : State) → Rests l.program.code l.program.lengths l.at σ → sleepers σ l.initial.set ≡ sleepers σ l.set)

abbrev pub decreases-loop-set : goal.decreases-loop-set
decreases-loop-set l = l.set
