-- `first_word` joins what is left of each thread, from the last one on. The invariant: the digits of those passed.
use Rattle.std.proofs.Common.{◌-◌, ◌^◌, ◌<◌, ◌≡◌, get_or}
use Rattle.machine.specs.Held.{idle}
use Rattle.states_key.proofs.SixBits.{six_from}
use Rattle.states_key.proofs.keys.first_word.Given as goal

abbrev pub invariant-loop-t : goal.invariant-loop-t
invariant-loop-t l = (l.word < 64 ^ (6 - l.t)) × (l.word ≡ six_from (λ u. get_or l.lengths u 0 - (get_or l.threads u idle).at) l.t)
