-- `put_pairs` stores one word after another. The invariant: those before i stand there.
use Rattle.std.proofs.Common.{ℕ, ◌*◌, ◌≤◌, ◌≡◌, List, ◌++◌, length, take}
use Rattle.theory_sc_key.specs.Key.{pairs, padded}
use Rattle.tso_key.proofs.keys.put_pairs.Given as goal

abbrev pub invariant-loop-i : goal.invariant-loop-i
invariant-loop-i it = (it.i ≤ it.n) × ((l : List ℕ) → length l ≡ it.at → it.initial.words ≡ padded 27 l → it.words ≡ padded 27 (l ++ pairs (take (it.i * 2) it.values)))
