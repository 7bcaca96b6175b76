-- R3 as the code asks it: the sets of what is left, in an array, and where the threads stand, in an array of their six counters.
use Rattle.std.specs.Prelude.{ℕ, ◌+◌, ◌*◌, ◌<◌, ◌≤◌, ◌≡◌, Bool, List, get_or, drop}
use Rattle.file_rows.specs.Rows.{thread_code}
use Rattle.spec_sc.specs.State.{State, thread_of}
use Rattle.theory_sc.specs.Sleepers.{reads_left, writes_left, meets}

-- for each instruction i of a thread t, in its row, the locations that the code from it on may still read and, in the second half, write
pub record Left (code lengths left : List ℕ) : Type 0 where
  pub reads : (t i : ℕ) → t < 6 → i < get_or lengths t 0 → get_or lengths t 0 ≤ 16
      → get_or left (t * 16 + i) 0 ≡ reads_left (drop i (thread_code code t (get_or lengths t 0)))
  pub writes : (t i : ℕ) → t < 6 → i < get_or lengths t 0 → get_or lengths t 0 ≤ 16
      → get_or left (t * 16 + i + 96) 0 ≡ writes_left (drop i (thread_code code t (get_or lengths t 0)))

-- a thread that has not ended has at most sixteen instructions
abbrev pub ShortAt : List ℕ → List ℕ → Type 0
ShortAt lengths at = (k : ℕ) → k < 6 → get_or at k 0 < get_or lengths k 0 → get_or lengths k 0 ≤ 16

-- the code that is left to each of the six
abbrev pub Rests : List ℕ → List ℕ → List ℕ → State → Type 0
Rests code lengths at σ = (t : ℕ) → t < 6 → (thread_of σ t).local.rest ≡ drop (get_or at t 0) (thread_code code t (get_or lengths t 0))

-- whether something that is left to thread u could conflict with an access at l, which could write (w) or only reads
abbrev pub meets_at : List ℕ → List ℕ → List ℕ → ℕ → ℕ → Bool → Bool
meets_at code lengths at u l w =
    let rest = drop (get_or at u 0) (thread_code code u (get_or lengths u 0)) in
    meets (reads_left rest) (writes_left rest) l w
