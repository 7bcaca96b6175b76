-- `none_waits` asks one entry after the other. The invariant: none so far waits.
use Rattle.std.proofs.Common.{ℕ, ◌<◌, ◌≡◌, false}
use Rattle.judge_next.specs.HeldWalk.{waits_at}
use Rattle.judge_next.proofs.waiting.none_waits.Given as goal

abbrev pub invariant-loop-k : goal.invariant-loop-k
invariant-loop-k l = (i : ℕ) → i < l.k → waits_at l.pairs l.places l.m i l.l l.u l.j l.t l.d ≡ false
