-- R2 by words: each thread carries one word of 64 bits for its accesses, a digit for each, and two threads of one `02` line are twins exactly
-- when their words are equal. A thread that wrote memory, or whose accesses no longer fit, can have no twin: its word is one that no other
-- thread has.
use Rattle.std.specs.Prelude.{ℕ, ◌+◌, ◌*◌, ◌^◌, Bool, true, false, cond, ◌&&◌, List, [], ◌∷◌, eqb, ltb, get_or}
use Rattle.spec_file.specs.Program.{Program}
use Rattle.spec_model.specs.Exchange.{together}

-- the digits of these in such a base, the first last
unfoldable pub digits : {A : Type 0} → ℕ → (A → ℕ) → List A → ℕ
digits base digit [] = 0
digits base digit (x ∷ xs) = digits base digit xs * base + digit x

-- the word of thread t when it can have no twin any more
unfoldable pub lone : ℕ → ℕ
lone t = 2 ^ 60 + t

-- thread t's word behind a step that wrote memory, or behind an access with this digit that did not: one more fits a word below `room`
unfoldable pub word_behind : ℕ → ℕ → ℕ → ℕ → ℕ → Bool → ℕ
word_behind base room t word d true = lone t
word_behind base room t word d false = cond (ltb word room) (word * base + d) (lone t)

-- R2, u is t's twin: of t's `02` line, with the same word
abbrev pub twin_by_word : Program → List ℕ → ℕ → ℕ → Bool
twin_by_word p words t u = together p.groups u t && eqb (get_or words u 0) (get_or words t 0)
