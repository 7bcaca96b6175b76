-- WHAT A TABLE MAY SAY. A table says things of keys; what it says of a key is to be right of every position that has the key. `Right` says what
-- is right of a position: its numbers, or that nothing fails behind it, or who wins from it. `Fit` are the keys that the table is for.
use Rattle.std.specs.Prelude.{◌≡◌, ◌⊎◌}

module _ {P K E : Type 0} (Met : P → Type 0) (key : P → K) (Right : P → E → Type 0) where
  -- everything that is said is right, of every position with the key
  abbrev pub True : (K → E → Type 0) → Type 0
  True Says = (x : P) → Met x → (c : E) → Says (key x) c → Right x c

  -- positions with one key have the same right answers
  abbrev pub Shared : Type 0
  Shared = (x y : P) → Met x → Met y → key x ≡ key y → (c : E) → Right x c → Right y c

-- a table that has taken up an entry says what it said, or the entry of its key, and nothing else; it may say less
abbrev pub Honest : {K E : Type 0} → (K → Type 0) → K → E → (K → E → Type 0) → (K → E → Type 0) → Type 0
Honest {K} {E} Fit k n Says Says' = (j : K) → Fit j → (c : E) → Says' j c → Says j c ⊎ ((j ≡ k) × (c ≡ n))
