-- `with_places` appends one location after another. The invariant: the word has those before i.
use Rattle.std.proofs.Common.{◌+◌, ◌-◌, ◌^◌, ◌<◌, ◌≤◌, ◌≡◌}
use Rattle.tso_machine.specs.Slots.{queue_at}
use Rattle.theory_tso_key.specs.Words.{locations, appended}
use Rattle.tso_key.proofs.waiting.with_places.Given as goal

abbrev pub invariant-loop-i : goal.invariant-loop-i
invariant-loop-i l = (l.head ≤ l.i) × (l.i ≤ l.tail) × (l.word ≡ appended 8 l.places (locations (queue_at l.slots l.head (l.i - l.head)))) × (l.word < 8 ^ (l.n + (l.i - l.head)))
