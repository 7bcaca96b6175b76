-- The word of a thread's accesses. An access adds seven bits: what it read from, an own source by its number alone, or that it is a store.
use Rattle.std.specs.Prelude.{ℕ, zero, suc, ◌+◌, ◌*◌, ◌^◌, Bool, true, false, cond, ◌&&◌, List, [], ◌∷◌, eqb, ltb}
use Rattle.std.proofs.Math.Option.{Option, none, some}
use Rattle.spec_sc.specs.State.{Event}
use Rattle.theory_search.specs.Standing.{silent}
use Rattle.theory_sc.specs.ThreadWords as ThreadWords
use Rattle.theory_sc.specs.ThreadWords.{lone}
use Rattle.spec_tso.specs.State.{State, without_queues, thread_of}

-- the sources of the first n accesses, latest first; none where it is a store
unfoldable pub sources_of : ℕ → List (ℕ × Event) → List (Option Event)
sources_of zero rs = []
sources_of (suc n) [] = none ∷ sources_of n []
sources_of (suc n) (r ∷ rs) = elim (eqb r.0 n) [ true ↦ some r.1 ∷ sources_of n rs | false ↦ none ∷ sources_of n (r ∷ rs) ]

-- the digit of a source that thread t read: an own store, the initial write, or another thread's write
unfoldable pub source_digit : ℕ → Event → ℕ
source_digit t e = cond (eqb e.0 t) (e.1 + 3) (cond (ltb e.0 6) (e.0 * 16 + e.1 + 19) 2)

-- the digit of an access of thread t
unfoldable pub digit : ℕ → Option Event → ℕ
digit t none = 1
digit t (some e) = source_digit t e

-- the number that the digits of accesses of thread t make, the latest last
abbrev pub digits : ℕ → List (Option Event) → ℕ
digits t = ThreadWords.digits 128 (digit t)

-- thread t's word: eight accesses fit
unfoldable pub word_of : State → ℕ → ℕ
word_of σ t =
    let h = (thread_of σ t).history in
    cond (silent (without_queues σ) t && ltb h.done 9) (digits t (sources_of h.done h.reads)) (lone t)

-- a thread's word behind an access with this digit that did not put, or behind a step that did
abbrev pub word_behind : ℕ → ℕ → ℕ → Bool → ℕ
word_behind = ThreadWords.word_behind 128 (2 ^ 49)
