-- `waiting_of` goes through the queues. The invariant: those of the threads before t are there.
use Rattle.std.proofs.Common.{◌^◌, ◌<◌, ◌≤◌, ◌≡◌, length}
use Rattle.theory_sc_key.specs.Key.{padded}
use Rattle.theory_tso_key.specs.Words.{join, locations, stored, appended}
use Rattle.tso_key.specs.Carried.{queues_to}
use Rattle.tso_key.proofs.waiting.waiting_of.Given as goal

abbrev pub invariant-loop-t : goal.invariant-loop-t
invariant-loop-t l =
    (l.t ≤ 6) × (l.values ≡ padded 16 (stored (join (queues_to l.slots l.heads l.tails l.t)))) × (l.places ≡ appended 8 0 (locations (join (queues_to l.slots l.heads l.tails l.t)))) × (l.places < 8 ^ l.n) × (l.n ≡ length (join (queues_to l.slots l.heads l.tails l.t)))
