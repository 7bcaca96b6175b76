-- `known_lines` goes over the classes. The invariant: those before t are known, and the others as they were.
use Rattle.std.proofs.Common.{ℕ, ◌<◌, ◌≤◌, ◌≡◌, List, length, get_or}
use Rattle.search_place.proofs.ClassGroups.{Kept}
use Rattle.search_place.proofs.classes.known_lines.Given as goal

pub record Known (class : List ℕ) (n : ℕ) (known : List ℕ) (t : ℕ) : Type 0 where
  pub size : length known ≡ 6
  pub before : (u : ℕ) → u < t → Kept n (get_or class u 0) (get_or known u 0)
  pub behind : (u : ℕ) → t ≤ u → get_or known u 0 ≡ get_or class u 0

abbrev pub invariant-loop-t : goal.invariant-loop-t
invariant-loop-t l = Known l.initial.known l.groups l.known l.t
