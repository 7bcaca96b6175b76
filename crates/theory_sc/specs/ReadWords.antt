-- The word of a thread's reads. A read adds five bits, the number of the step that wrote what it reads; so each location carries the number
-- of the step that wrote it last.
use Rattle.std.specs.Prelude.{ℕ, ◌+◌, ◌^◌, Bool, true, false, List, [], ◌∷◌, get_or, set}
use Rattle.spec_file.specs.Program.{Program}
use Rattle.spec_schedules.specs.Order.{Schedule}
use Rattle.spec_sc.specs.State.{State, place, step, start}
use Rattle.spec_sc.specs.Actions.{writes}
use Rattle.theory_sc.specs.ThreadWords as ThreadWords

-- for each of the eight locations the number of the step that wrote it last, from 1, or 0; for each of the six threads its word
pub record Words : Type 0 where
  pub stamps : List ℕ
  pub words : List ℕ

-- thread t's word behind an access that found this stamp, and wrote or not; twelve reads fit
abbrev pub word_behind : ℕ → ℕ → ℕ → Bool → ℕ
word_behind t word stamp wrote = ThreadWords.word_behind 32 (2 ^ 55) t word (stamp + 1) wrote

-- the stamps behind step number n at l
unfoldable pub stamps_behind : List ℕ → ℕ → ℕ → Bool → List ℕ
stamps_behind stamps l n true = set stamps l n
stamps_behind stamps l n false = stamps

-- stamps and words behind step number n, from 1, of thread t
unfoldable pub words_behind : State → ℕ → Words → ℕ → Words
words_behind σ n m t =
    let stamp = get_or m.stamps (place σ t) 0 in
    record {
      stamps = stamps_behind m.stamps (place σ t) n (writes σ t);
      words = set m.words t (word_behind t (get_or m.words t 0) stamp (writes σ t));
    }

-- stamps and words behind the steps of a schedule, with n steps before
unfoldable pub words_after : State → ℕ → Words → Schedule → Words
words_after σ n m [] = m
words_after σ n m (t ∷ v) = words_after (step σ t) (n + 1) (words_behind σ (n + 1) m t) v

-- stamps and words before the first step
unfoldable pub no_words : Words
no_words = record { stamps = 0 ∷ 0 ∷ 0 ∷ 0 ∷ 0 ∷ 0 ∷ 0 ∷ 0 ∷ []; words = 0 ∷ 0 ∷ 0 ∷ 0 ∷ 0 ∷ 0 ∷ [] }

-- stamps and words behind a program's prefix
unfoldable pub words_of : Program → Schedule → Words
words_of p v = words_after (start p) 0 no_words v
