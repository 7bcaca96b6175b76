-- `lefts_word` goes from the last thread to the first. The invariant: the word has those from t on.
use Rattle.std.proofs.Common.{◌-◌, ◌^◌, ◌<◌, ◌≤◌, ◌≡◌, [], get_or}
use Rattle.machine.specs.Held.{idle}
use Rattle.tso_key.proofs.Digits.{fives}
use Rattle.tso_key.proofs.keys.lefts_word.Given as goal

abbrev pub invariant-loop-t : goal.invariant-loop-t
invariant-loop-t l = (l.t ≤ 6) × (l.word ≡ fives (λ i. get_or l.lengths i 0 - (get_or l.threads i idle).at) l.t []) × (l.word < 32 ^ (6 - l.t))
