-- `newest` looks from the tail back. The invariant: what is newest up to k is newest in all.
use Rattle.std.proofs.Common.{◌-◌, ◌≡◌}
use Rattle.spec_tso.specs.Queue.{newest}
use Rattle.tso_machine.specs.Slots.{queue_at}
use Rattle.tso_machine.proofs.looking.newest.Given as goal

abbrev pub invariant-loop-k : goal.invariant-loop-k
invariant-loop-k l = newest (queue_at l.slots l.head (l.tail - l.head)) l.l ≡ newest (queue_at l.slots l.head (l.k - l.head)) l.l
