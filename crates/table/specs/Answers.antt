-- What looking answers, and what putting leaves.
use Rattle.std.specs.Prelude.{◌≡◌, ℕ, ◌+◌, ◌≤◌, ◌≢◌, ◌⊎◌, List, length, slice_index, Option, Some, None}
use Rattle.std.proofs.Math.Option as Math
use Rattle.std.proofs.Math.Option.{some}
use Rattle.table.specs.Said.{part, said_at}
use Rattle.table.specs.Places.{place_of, said}

-- the words that were found
abbrev pub read : List ℕ → ℕ → Option ℕ → Math.Option (List ℕ)
read m width (Some i) = Math.some (part m i width)
read m width None = Math.none

-- they stand in the table
abbrev pub Within : Option ℕ → ℕ → List ℕ → Type 0
Within (Some i) width m = i + width ≤ length m
Within None width m = Unit {0}

-- HONEST: of every key as wide, what a table says with an entry put into it, it said before, or it is the new entry of the new key
abbrev pub Honest : ℕ → List ℕ → List ℕ → List ℕ → List ℕ → Type 0
Honest slots k e m m' =
    (j : List ℕ) → length j ≡ length k → (c : List ℕ) → said slots (length e) m' j ≡ some c → (said slots (length e) m j ≡ some c) ⊎ ((j ≡ k) × (c ≡ e))

-- a table m with k and e put into the slot at a place, which leaves m': as many words as before; honest, where this is the key's own place in a
-- table of so many slots; and where the slot is in the table, and the key can stand in one, it is found there
pub record Put (at : ℕ) (k e m m' : List ℕ) : Type 0 where
  pub words : length m' ≡ length m
  pub honest : (slots : ℕ) → at ≡ place_of slots (length e) k → Honest slots k e m m'
  pub kept : at + (length k + length e) ≤ length m → slice_index k 0 ≢ 0 → said_at at (length e) m' k ≡ some e
