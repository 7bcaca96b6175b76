-- `has_same_word` tests one thread after the other. The invariant: those before u do not pass.
use Rattle.std.proofs.Common.{ℕ, ◌<◌, ◌≤◌, ◌≡◌, false, ◌&&◌, eqb, get_or}
use Rattle.search_rules.proofs.standing.has_same_word.Given as goal

abbrev pub invariant-loop-u : goal.invariant-loop-u
invariant-loop-u l = (l.u ≤ l.last) × ((k : ℕ) → k < l.u → (eqb (get_or l.class k 0) l.g && eqb (get_or l.words k 0) l.word) ≡ false)
