-- `next_values` follows one source after the other. The invariant: the values so far are found.
use Rattle.std.proofs.Common.{ℕ, ◌<◌, ◌≡◌, length, get_or}
use Rattle.judge_values.specs.HeldRounds.{sourced}
use Rattle.judge_values.proofs.valuing.next_values.Given as goal

abbrev pub invariant-loop-k : goal.invariant-loop-k
invariant-loop-k l = (length l.vs ≡ 96) × ((j : ℕ) → j < l.k → get_or l.vs j 0 ≡ sourced l.pairs l.left l.places l.starting j)
