-- NEARNESS FROM WHAT THE SEARCH CARRIES: no thread is run ahead. Beside the word of its reads (theory_sc, ReadWords) each thread carries its way, the
-- locations of its latest twelve accesses. A thread t is near u exactly where u's word comes back to t's when u's latest reads are taken off it, each
-- while the write that it read is still the last of its location.
use Rattle.std.specs.Prelude.{ℕ, zero, suc, ◌+◌, ◌*◌, ◌/◌, ◌%◌, ◌^◌, Bool, not, ◌&&◌, ◌||◌, List, [], ◌∷◌, map, eqb, ltb, get_or, set}
use Rattle.spec_file.specs.Program.{Program}
use Rattle.spec_schedules.specs.Lists.{range}
use Rattle.spec_schedules.specs.Order.{Schedule}
use Rattle.spec_model.specs.Exchange.{together}
use Rattle.spec_sc.specs.State.{State, place, step, start}
use Rattle.theory_sc.specs.Sets.{set_of}
use Rattle.theory_sc.specs.LateSet.{late_set}
use Rattle.theory_sc.specs.ReadWords.{Words, words_of}
use Rattle.theory_sc_key.specs.Key.{Key, left_of, values_of}

-- ---- WAYS
-- a thread's way behind an access at l: three bits for each access, the latest lowest, and twelve of them
unfoldable pub way_behind : ℕ → ℕ → ℕ
way_behind way l = (way * 8 + l) % 2 ^ 36

-- the six ways behind a step of thread t
unfoldable pub ways_behind : State → List ℕ → ℕ → List ℕ
ways_behind σ ways t = set ways t (way_behind (get_or ways t 0) (place σ t))

-- behind these steps
unfoldable pub ways_after : State → List ℕ → Schedule → List ℕ
ways_after σ ways [] = ways
ways_after σ ways (t ∷ v) = ways_after (step σ t) (ways_behind σ ways t) v

-- before the first step
unfoldable pub no_ways : List ℕ
no_ways = 0 ∷ 0 ∷ 0 ∷ 0 ∷ 0 ∷ 0 ∷ []

-- behind a program's prefix
unfoldable pub ways_of : Program → Schedule → List ℕ
ways_of p v = ways_after (start p) no_ways v

-- ---- NEARNESS
-- whether the word y, whose accesses went this way, comes back to the word x when at most so many reads are taken off it, the latest first, each
-- while the write that it read is still the last of its location
unfoldable pub comes_back : ℕ → List ℕ → ℕ → ℕ → ℕ → Bool
comes_back zero stamps x y way = eqb y x
comes_back (suc n) stamps x y way =
    eqb y x || (eqb (get_or stamps (way % 8) 0 + 1) (y % 32) && comes_back n stamps x (y / 32) (way / 8))

-- whether t is near u: two of one `02` line, neither of which has a word of its own, and u's comes back to t's; twelve reads are all that a word holds
unfoldable pub near_by_word : Program → Words → List ℕ → ℕ → ℕ → Bool
near_by_word p m ways t u =
    not (eqb t u) && (together p.groups t u && (ltb (get_or m.words t 0) (2 ^ 60) && (ltb (get_or m.words u 0) (2 ^ 60)
    && comes_back 12 m.stamps (get_or m.words t 0) (get_or m.words u 0) (get_or ways u 0))))

-- for each thread the set of those that it is near, a bit for each
abbrev pub near_sets_by_word : Program → Words → List ℕ → List ℕ
near_sets_by_word p m ways = map (λ t. set_of (near_by_word p m ways t) 6) (range 0 6)

-- THE KEY, with nearness from what the search carries
abbrev pub carried_key : Program → Schedule → State → Key
carried_key p v σ = record { late = late_set p v; left = left_of σ; nearness = near_sets_by_word p (words_of p v) (ways_of p v); values = values_of σ }
