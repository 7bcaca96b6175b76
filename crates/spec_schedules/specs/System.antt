-- A step system: states, the bytes that may step in each, and what a step does. A run takes the bytes of a schedule one after the other;
-- a schedule is full from a state when each of its bytes may step in turn and behind the last none may.
use Rattle.std.specs.Prelude.{ℕ, ◌<◌, ◌≡◌, Bool, true, false}
use mathlib.Core.List.{List, [], ◌∷◌, Memᴰ}
use Rattle.spec_schedules.specs.Order.{Schedule}

-- `names` are the bytes that may ever step, ascending; `size` bounds the steps still to come
pub record System : Type 1 where
  pub State : Type 0
  pub enabled : State → ℕ → Bool
  pub step : State → ℕ → State
  pub names : List ℕ
  pub size : State → ℕ

-- what the theory asks of a step system: a byte that may step is among the names, and each step lowers the size
pub record Lawful (M : System) : Type 0 where
  pub named : (σ : M.State) (t : ℕ) → M.enabled σ t ≡ true → Memᴰ t M.names
  pub falls : (σ : M.State) (t : ℕ) → M.enabled σ t ≡ true → M.size (M.step σ t) < M.size σ

-- the state behind these steps
unfoldable pub run : (M : System) → M.State → Schedule → M.State
run M σ [] = σ
run M σ (t ∷ s) = run M (M.step σ t) s

-- none of the bytes in a list may step
unfoldable pub none_enabled : (M : System) → M.State → List ℕ → Bool
none_enabled M σ [] = true
none_enabled M σ (t ∷ ts) = elim (M.enabled σ t) [ true ↦ false | false ↦ none_enabled M σ ts ]

-- no byte may step any more
unfoldable pub ended : (M : System) → M.State → Bool
ended M σ = none_enabled M σ M.names

-- from this state on each byte may step in its turn, and behind the last none may
abbrev pub FullFrom : (M : System) → M.State → Schedule → Type 0
FullFrom M σ [] = ended M σ ≡ true
FullFrom M σ (t ∷ s) = (M.enabled σ t ≡ true) × FullFrom M (M.step σ t) s

-- from this state on each byte may step in its turn
abbrev pub Allowed : (M : System) → M.State → Schedule → Type 0
Allowed M σ [] = Unit {0}
Allowed M σ (t ∷ s) = (M.enabled σ t ≡ true) × Allowed M (M.step σ t) s
