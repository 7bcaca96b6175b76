-- Exchanging threads. Threads that an `02` line declares alike may be exchanged, by a permutation of the six thread numbers that moves each
-- thread only within its line. With no `02` line only the identity is permitted. What is said here of any permutation is also listed, to be
-- tried one by one.
use Rattle.std.specs.Prelude.{ℕ, ◌<◌, ◌≤◌, ◌≡◌, ◌⊎◌, Bool, ◌&&◌, ◌||◌, eqb}
use mathlib.Core.List.{List, Memᴰ}
use Rattle.spec_file.specs.Program.{Program}
use Rattle.spec_schedules.specs.Lists.{range, any, all, filter}
use Rattle.spec_schedules.specs.Permutations.{permutations, moved}

-- π permutes the numbers below six and leaves the others
pub record Permutation (π : ℕ → ℕ) : Type 0 where
  pub inverse : ℕ → ℕ
  pub inverse_after : (t : ℕ) → inverse (π t) ≡ t
  pub after_inverse : (t : ℕ) → π (inverse t) ≡ t
  pub below : (t : ℕ) → t < 6 → π t < 6
  pub stays : (t : ℕ) → 6 ≤ t → π t ≡ t

-- some `02` line names both threads
abbrev pub Together : Program → ℕ → ℕ → Type 0
Together p t u = (g : List ℕ) × Memᴰ g p.groups × Memᴰ t g × Memᴰ u g

-- each thread stays or moves within its `02` line
abbrev pub Permitted : Program → (ℕ → ℕ) → Type 0
Permitted p π = (t : ℕ) → (π t ≡ t) ⊎ Together p t (π t)

-- π permutes the threads within their `02` lines
abbrev pub Exchange : Program → (ℕ → ℕ) → Type 0
Exchange p π = Permutation π × Permitted p π

-- whether threads t and u stand in one of these `02` lines
unfoldable pub together : List (List ℕ) → ℕ → ℕ → Bool
together groups t u = any (λ g. any (eqb t) g && any (eqb u) g) groups

-- whether each thread stays or moves within its line
unfoldable pub permits : List (List ℕ) → List ℕ → Bool
permits groups π = all (λ t. eqb (moved π t) t || together groups t (moved π t)) (range 0 6)

-- the permitted permutations, ascending
unfoldable pub permitted : Program → List (List ℕ)
permitted p = filter (permits p.groups) permutations
