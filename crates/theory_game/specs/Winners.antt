-- THE KEY OF A GAME'S STATE in words: the side that is to step, of each thread how many instructions are left, its live registers, and memory. It is
-- kept where no assertion failed yet. A table has one word for a key: whether that side wins.
use Rattle.std.specs.Prelude.{ℕ, ◌≡◌, Bool, false, cond, List, [], ◌∷◌}
use Rattle.spec_file.specs.Program.{Program}
use Rattle.spec_schedules.specs.Order.{Schedule}
use Rattle.spec_schedules.specs.System.{Allowed}
use Rattle.spec_sc.specs.State.{State, SC, start, fails}
use Rattle.spec_sc.specs.Graph.{end_of}
use Rattle.spec_force.specs.Game.{Side, hostile, friendly, same}
use Rattle.spec_force.specs.Forced.{game_of}
use Rattle.theory_states.specs.Memory.{True}
use Rattle.theory_sc_key.specs.Key.{seen_with, words_of, padded}
use Rattle.theory_game.specs.Wins.{wins}

-- a side as a number
unfoldable pub number_of : Side → ℕ
number_of friendly = 0
number_of hostile = 1

-- with zeros behind, up to so many words
abbrev pub game_words : ℕ → Side → State → List ℕ
game_words n x σ = padded n (words_of (seen_with (number_of x) [] σ))

-- whether side x wins where it is its turn, as an entry
abbrev pub entry_of : Bool → List ℕ
entry_of b = cond b 1 0 ∷ []

-- a play behind which nothing failed
abbrev pub Going : Program → Side × Schedule → Type 0
Going p x = Allowed SC (start p) x.1 × (fails (end_of p x.1) ≡ false)

-- EVERY ENTRY IS RIGHT: of every play whose state has the key
abbrev pub Winners : ℕ → Program → ℕ → (List ℕ → List ℕ → Type 0) → Type 0
Winners set p n Says =
    True {P = Side × Schedule} {E = List ℕ} (Going p) (λ x. game_words n x.0 (end_of p x.1)) (λ x e. e ≡ entry_of (same (wins (game_of set) x.0 (end_of p x.1)) x.0)) Says
