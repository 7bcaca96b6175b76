-- `packed` joins two values after the other. The invariant: the words so far, with zeros behind.
use Rattle.std.proofs.Common.{◌≡◌, ◌∷◌, take}
use Rattle.theory_sc_key.specs.Key.{pairs, padded}
use Rattle.states_key.proofs.keys.packed.Given as goal

abbrev pub invariant-loop-i : goal.invariant-loop-i
invariant-loop-i l = l.words ≡ padded 18 (l.first ∷ l.second ∷ take l.i (pairs l.values))
