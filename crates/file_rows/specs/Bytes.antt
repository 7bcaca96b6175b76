-- Stretches of bytes that agree, and bytes written over others.
use Rattle.std.specs.Prelude.{ℕ, zero, suc, ◌+◌, ◌≤◌, ◌<◌, ◌≡◌, ◌⊎◌, Bool, true, ◌&&◌, List, eqb, length, get_or}

-- whether the n bytes from a on and those from b on are the same
unfoldable pub agree : List ℕ → ℕ → ℕ → ℕ → Bool
agree code a b zero = true
agree code a b (suc n) = eqb (get_or code a 0) (get_or code b 0) && agree code (a + 1) (b + 1) n

-- n bytes of f from position at on, all else as it was
pub record Written (old : List ℕ) (at : ℕ) (f : List ℕ) (n : ℕ) (new : List ℕ) : Type 0 where
  pub size : length new ≡ length old
  pub inside : (j : ℕ) → j < n → get_or new (at + j) 0 ≡ get_or f j 0
  pub outside : (k : ℕ) → (k < at) ⊎ (at + n ≤ k) → get_or new k 0 ≡ get_or old k 0
