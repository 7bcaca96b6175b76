-- NUMBERS IN WORDS of 64 bits: modulo 2^64, as a table keeps them and a loop adds them up. What a table of words says of keys is true where the words are
-- the numbers behind every position with the key; and where they only mark a key, no step fails behind such a position.
use Rattle.std.specs.Prelude.{ℕ, ◌+◌, ◌%◌, ◌^◌, ◌≡◌, Bool, List, [], ◌∷◌}
use Rattle.spec_schedules.specs.Order.{Schedule}
use Rattle.spec_schedules.specs.System.{System}
use Rattle.theory_states.specs.Numbers.{Numbers, numbers}
use Rattle.theory_states.specs.Memory.{True}

-- an entry of two words
abbrev pub entry_of : Numbers → List ℕ
entry_of n = (n.listed % 2 ^ 64) ∷ (n.failing % 2 ^ 64) ∷ []

-- these two words are the numbers
abbrev pub Wrapped : Numbers → ℕ → ℕ → Type 0
Wrapped n l f = (l ≡ n.listed % 2 ^ 64) × (f ≡ n.failing % 2 ^ 64)

-- what is left to a loop that has added up so much: the rest completes the whole
abbrev pub Completes : Numbers → Numbers → ℕ → ℕ → Type 0
Completes whole rest l f =
    ((l + rest.listed) % 2 ^ 64 ≡ whole.listed % 2 ^ 64) × ((f + rest.failing) % 2 ^ 64 ≡ whole.failing % 2 ^ 64)

module _ (M : System) (top : ℕ) (cut : Schedule → M.State → ℕ → Bool) (breaks : M.State → ℕ → Bool) (Met : Schedule → M.State → Type 0)
    (key : Schedule → M.State → List ℕ) where
  -- every entry is the numbers
  abbrev pub TrueEntries : (List ℕ → List ℕ → Type 0) → Type 0
  TrueEntries Says =
      True {P = Schedule × M.State} {E = List ℕ} (λ x. Met x.0 x.1) (λ x. key x.0 x.1) (λ x e. e ≡ entry_of (numbers M top cut breaks x.0 x.1)) Says

  -- behind every key that has an entry no step fails
  abbrev pub CleanKeys : (List ℕ → List ℕ → Type 0) → Type 0
  CleanKeys Says =
      True {P = Schedule × M.State} {E = List ℕ} (λ x. Met x.0 x.1) (λ x. key x.0 x.1) (λ x e. (numbers M top cut breaks x.0 x.1).failing ≡ 0) Says
