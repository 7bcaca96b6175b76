-- `with_pending` goes from the last queue to the first. The invariant: the word has those from t on, in front of what it began with.
use Rattle.std.proofs.Common.{ℕ, ◌-◌, ◌^◌, ◌<◌, ◌≤◌, ◌≡◌, List, get_or}
use Rattle.theory_tso_key.specs.Words.{number}
use Rattle.tso_key.proofs.Digits.{fives}
use Rattle.tso_key.proofs.keys.with_pending.Given as goal

abbrev pub invariant-loop-t : goal.invariant-loop-t
invariant-loop-t it = (it.t ≤ 6) × ((l : List ℕ) → it.lefts ≡ number 32 l → it.word ≡ fives (λ i. get_or it.tails i 0 - get_or it.heads i 0) it.t l) × (it.word < 32 ^ (12 - it.t))
