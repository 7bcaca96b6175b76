-- `is_pending` asks one slot after the other. The invariant: what is left to ask decides.
use Rattle.std.proofs.Common.{◌-◌, ◌≡◌}
use Rattle.tso_machine.specs.Slots.{queue_at}
use Rattle.tso_order.specs.Freed.{stores_to}
use Rattle.tso_order.proofs.waiting.is_pending.Given as goal

abbrev pub invariant-loop-k : goal.invariant-loop-k
invariant-loop-k l = stores_to l.l (queue_at l.slots l.head (l.tail - l.head)) ≡ stores_to l.l (queue_at l.slots l.k (l.k-end - l.k))
