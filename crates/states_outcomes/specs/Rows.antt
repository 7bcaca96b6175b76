-- OUTCOMES IN WORDS: a word that says whether something failed and is never 0, then the eight values; nine words each, one behind the other.
use Rattle.std.specs.Prelude.{ℕ, zero, suc, ◌*◌, ◌≡◌, ◌⊎◌, Bool, true, false, cond, not, ◌||◌, List, ◌∷◌, length}
use Rattle.std.proofs.Math.Option.{Option, none, some}
use Rattle.spec_covers.specs.declared.outcome.Outcome.{Outcome}
use Rattle.table.specs.Said.{said_at}

abbrev pub row_of : Outcome → List ℕ
row_of o = cond o.fails 2 1 ∷ o.memory

-- whether anything is said
abbrev pub told : Option (List ℕ) → Bool
told (some c) = true
told none = false

-- whether the row is among the first so many
unfoldable pub known_row : List ℕ → ℕ → List ℕ → Bool
known_row rows zero row = false
known_row rows (suc k) row = known_row rows k row || told (said_at (9 * k) 0 rows row)

-- whether an outcome is not
abbrev pub is_new : List ℕ → ℕ → Outcome → Bool
is_new rows n o = not (known_row rows n (row_of o))

-- rows with this outcome, and with no other one more
pub record Adds (rows : List ℕ) (n : ℕ) (o : Outcome) (rows' : List ℕ) (n' : ℕ) : Type 0 where
  pub known : known_row rows' n' (row_of o) ≡ true
  pub stays : (x : Outcome) → length x.memory ≡ 8 → known_row rows n (row_of x) ≡ true → known_row rows' n' (row_of x) ≡ true
  pub only : (x : Outcome) → length x.memory ≡ 8 → known_row rows' n' (row_of x) ≡ true → (known_row rows n (row_of x) ≡ true) ⊎ (x ≡ o)
