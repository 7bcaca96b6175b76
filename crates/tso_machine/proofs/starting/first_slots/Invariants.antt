-- `first_slots` goes from thread to thread. The invariant: those before t have theirs.
use Rattle.std.proofs.Common.{ℕ, ◌<◌, ◌≤◌, ◌≡◌, length, get_or, min}
use Rattle.machine_access.specs.Counted.{accesses_below}
use Rattle.tso_machine.proofs.starting.first_slots.Given as goal

abbrev pub invariant-loop-t : goal.invariant-loop-t
invariant-loop-t l = (l.t ≤ 6) × (length l.first ≡ 6) × ((u : ℕ) → u < l.t → get_or l.first u 0 ≡ accesses_below l.program.code l.program.lengths (min l.program.threads u))
