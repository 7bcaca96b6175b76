-- `values_of` goes through the threads, then through memory. The invariant: what the threads passed give, with zeros behind.
use Rattle.std.proofs.Common.{◌*◌, ◌≤◌, ◌≡◌, length}
use Rattle.theory_sc_key.specs.Key.{padded}
use Rattle.states_key.specs.Gathered.{gathered}
use Rattle.states_key.proofs.values.values_of.Given as goal

abbrev pub invariant-loop-t : goal.invariant-loop-t
invariant-loop-t l =
    (l.n ≤ 4 * l.t) × (length (gathered l.lengths l.masks l.threads l.t) ≡ l.n) × (l.values ≡ padded 32 (gathered l.lengths l.masks l.threads l.t))
