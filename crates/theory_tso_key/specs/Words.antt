-- THE KEY AS WORDS of 64 bits. The first has the sets, six bits each, and is never 0; the second how much is pending in each queue and how many
-- instructions are left to each thread, five bits each; the third the locations of all pending stores, three bits each. Then come their values and
-- the values that matter, each by two. At most sixteen stores are pending, so 27 words are enough.
use Rattle.std.specs.Prelude.{ℕ, zero, suc, ◌+◌, ◌*◌, ◌^◌, ◌<◌, ◌≤◌, ◌≡◌, List, [], ◌∷◌, ◌++◌, map, length}
use Rattle.spec_file.specs.Program.{Program}
use Rattle.spec_file.specs.WellFormed.{Everywhere}
use Rattle.spec_file.specs.declared.instruction.Access.TheVariants.{Store, Load, FetchAdd, CompareSwap}
use Rattle.spec_file.specs.declared.instruction.Instruction.{Instruction}
use Rattle.spec_file.specs.declared.instruction.Instruction.TheVariants.{Memory, Alone}
use Rattle.spec_schedules.specs.Order.{Schedule}
use Rattle.theory_sc.specs.ThreadWords.{digits}
use Rattle.theory_sc_key.specs.Key.{pairs, padded}
use Rattle.spec_tso.specs.Queue.{Entry}
use Rattle.spec_tso.specs.State.{State, TSO, start}
use Rattle.theory_states.specs.Positions.{Reached}
use Rattle.theory_tso_key.specs.Key.{Key, key_of}

-- one list behind the other
unfoldable pub join : {A : Type 0} → List (List A) → List A
join [] = []
join (l ∷ ls) = l ++ join ls

-- all pending stores, thread by thread: where they go, and what they write
abbrev pub locations : List Entry → List ℕ
locations q = map (λ (e : Entry). e.location) q

abbrev pub stored : List Entry → List ℕ
stored q = map (λ (e : Entry). e.value) q

-- the first last
abbrev pub number : ℕ → List ℕ → ℕ
number base = digits base (λ n. n)

-- a number with these digits behind it
unfoldable pub appended : ℕ → ℕ → List ℕ → ℕ
appended base n [] = n
appended base n (d ∷ ds) = appended base (n * base + d) ds

abbrev pub sets_of : Key → List ℕ
sets_of k = k.late_accesses ∷ k.late_moves ∷ k.far_moves ∷ k.nearness

unfoldable pub words_of : Key → List ℕ
words_of k =
    (2 ^ 63 + number 64 (sets_of k)) ∷ number 32 (map length k.queues ++ k.left) ∷ appended 8 0 (locations (join k.queues))
    ∷ (pairs (stored (join k.queues)) ++ pairs k.values)

-- of a position, with zeros behind up to so many words
abbrev pub word_key : ℕ → Program → Schedule → State → List ℕ
word_key n p v σ = padded n (words_of (key_of p v σ))

-- so many words are enough for every position of the search
abbrev pub Wide : ℕ → Program → Type 0
Wide n p = (v : Schedule) (σ : State) → Reached TSO (start p) v σ → length (words_of (key_of p v σ)) ≤ n

-- how many stores are in this code; no more of them can ever be pending
unfoldable pub store_of : Instruction → ℕ
store_of (Memory (Store l p)) = 1
store_of (Memory (Load r l)) = 0
store_of (Memory (FetchAdd r l p)) = 0
store_of (Memory (CompareSwap r l e v)) = 0
store_of (Alone o) = 0

unfoldable pub stores : List Instruction → ℕ
stores [] = 0
stores (i ∷ is) = store_of i + stores is

-- of the first so many threads of a program
unfoldable pub stores_of : ℕ → List (List Instruction) → ℕ
stores_of zero cs = 0
stores_of (suc n) [] = 0
stores_of (suc n) (c ∷ cs) = stores c + stores_of n cs

-- what the key of a position looks like
abbrev pub Plain : Entry → Type 0
Plain e = (e.number ≡ 0) × (e.location < 8) × (e.value < 2 ^ 32)

pub record Shaped (k : Key) : Type 0 where
  pub sets : Everywhere (λ n. n < 64) (sets_of k)
  pub near : length k.nearness ≡ 6
  pub queues : length k.queues ≡ 6
  pub lengths : Everywhere (λ n. n < 32) (map length k.queues ++ k.left)
  pub left : length k.left ≡ 6
  pub plain : Everywhere Plain (join k.queues)
  pub sixteen : length (join k.queues) ≤ 16
  pub values : Everywhere (λ n. n < 2 ^ 32) k.values
  pub many : length k.values ≤ 32
