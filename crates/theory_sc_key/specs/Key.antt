-- THE KEY OF A POSITION: the late set; of each thread how many instructions are left; who is near whom; and the values that matter, which are those of
-- live registers and of memory. What was read and written, in which order, and what failed is not in it.
use Rattle.std.specs.Prelude.{ℕ, ◌+◌, ◌-◌, ◌*◌, ◌/◌, ◌%◌, ◌^◌, ◌≤◌, Bool, List, [], ◌∷◌, ◌++◌, map, length, get_or, replicate}
use Rattle.spec_file.specs.Program.{Program}
use Rattle.spec_schedules.specs.Lists.{range, filter}
use Rattle.spec_schedules.specs.Order.{Schedule}
use Rattle.spec_sc.specs.State.{State, thread_of, memory_of, SC, start}
use Rattle.theory_sc.specs.LateSet.{late_set}
use Rattle.theory_sc.specs.ThreadWords.{digits}
use Rattle.theory_states.specs.Positions.{Reached}
use Rattle.theory_sc_key.specs.Registers.{live}
use Rattle.theory_sc_key.specs.Nearness.{near_sets}

pub record Key : Type 0 where
  pub late : ℕ
  pub left : List ℕ
  pub nearness : List ℕ
  pub values : List ℕ

-- of each of the six threads how many instructions are left
abbrev pub left_of : State → List ℕ
left_of σ = map (λ t. length (thread_of σ t).local.rest) (range 0 6)

-- register i % 4 of thread i / 4: whether it is live, and what it holds
unfoldable pub live_at : State → ℕ → Bool
live_at σ i = live 0 (thread_of σ (i / 4)).local.rest (i % 4)

unfoldable pub register_at : State → ℕ → ℕ
register_at σ i = get_or (thread_of σ (i / 4)).local.registers (i % 4) 0

-- live registers, then memory
abbrev pub values_of : State → List ℕ
values_of σ = map (register_at σ) (filter (live_at σ) (range 0 24)) ++ memory_of σ

-- what is seen of a state, with a set in front and sets for the threads
abbrev pub seen_with : ℕ → List ℕ → State → Key
seen_with set sets σ = record { late = set; left = left_of σ; nearness = sets; values = values_of σ }

abbrev pub key_of : Program → Schedule → State → Key
key_of p v σ = seen_with (late_set p v) (near_sets p σ) σ

-- ---- BY WORDS of 64 bits
-- two values a word
unfoldable pub pairs : List ℕ → List ℕ
pairs [] = []
pairs (a ∷ []) = a ∷ []
pairs (a ∷ b ∷ l) = (a + 2 ^ 32 * b) ∷ pairs l

-- six bits each for the late set, what is left, and the sets of those near; then the values. The first word is never 0.
unfoldable pub words_of : Key → List ℕ
words_of k = (2 ^ 63 + digits 64 (λ n. n) (k.late ∷ k.left)) ∷ digits 64 (λ n. n) k.nearness ∷ pairs k.values

-- with zeros behind, up to so many words
unfoldable pub padded : ℕ → List ℕ → List ℕ
padded n l = l ++ replicate (n - length l) 0

abbrev pub word_key : ℕ → Program → Schedule → State → List ℕ
word_key n p v σ = padded n (words_of (key_of p v σ))

-- so many words are enough for every position of the search
abbrev pub Wide : ℕ → Program → Type 0
Wide n p = (v : Schedule) (σ : State) → Reached SC (start p) v σ → length (words_of (key_of p v σ)) ≤ n
