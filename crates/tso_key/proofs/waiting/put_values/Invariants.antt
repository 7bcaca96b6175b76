-- `put_values` stores one value after another. The invariant: those before i stand there.
use Rattle.std.proofs.Common.{ℕ, ◌+◌, ◌-◌, ◌≤◌, ◌≡◌, List, ◌++◌, length}
use Rattle.tso_machine.specs.Slots.{queue_at}
use Rattle.theory_sc_key.specs.Key.{padded}
use Rattle.theory_tso_key.specs.Words.{stored}
use Rattle.tso_key.proofs.waiting.put_values.Given as goal

abbrev pub invariant-loop-i : goal.invariant-loop-i
invariant-loop-i it =
    (it.head ≤ it.i) × (it.i ≤ it.tail) × (it.at ≡ it.n + (it.i - it.head)) × ((l : List ℕ) → length l ≡ it.n → it.initial.values ≡ padded 16 l → it.values ≡ padded 16 (l ++ stored (queue_at it.slots it.head (it.i - it.head))))
