-- R3 as a set: late threads that nothing left to the others can wake. A late thread is woken by an access that conflicts with its own next
-- one. The threads of the set need not be feared: the first of them that steps is late. So late threads that could be woken only by each
-- other, in a circle, are asleep too.
use Rattle.std.specs.Prelude.{ℕ, zero, suc, Bool, true, false, cond, not, ◌&&◌, ◌||◌, List, [], ◌∷◌, eqb}
use Rattle.spec_file.specs.declared.instruction.Instruction.{Instruction}
use Rattle.spec_file.specs.declared.instruction.Instruction.TheVariants.{Memory, Alone}
use Rattle.spec_schedules.specs.Lists.{range, all}
use Rattle.spec_sc.specs.Local.{access_place, access_takes}
use Rattle.spec_sc.specs.State.{State, thread_of, place}
use Rattle.theory_search.specs.Ahead.{access_may_write, may_write}
use Rattle.spec_schedules.specs.Sets.{has}
use Rattle.theory_sc.specs.Sets.{set_of, joined}

-- the locations that this code may still read; what a skip may leave out is counted all the same
unfoldable pub reads_left : List Instruction → ℕ
reads_left [] = 0
reads_left (Memory a ∷ is) = cond (access_takes a) (joined (access_place a) (reads_left is)) (reads_left is)
reads_left (Alone o ∷ is) = reads_left is

-- the locations that this code may still write
unfoldable pub writes_left : List Instruction → ℕ
writes_left [] = 0
writes_left (Memory a ∷ is) = cond (access_may_write a) (joined (access_place a) (writes_left is)) (writes_left is)
writes_left (Alone o ∷ is) = writes_left is

-- whether code that may still read and write these locations could conflict with an access at l, which could write (w) or only reads
unfoldable pub meets : ℕ → ℕ → ℕ → Bool → Bool
meets reads writes l w = has writes l || (has reads l && w)

-- whether something left to u could wake t
unfoldable pub wakes : State → ℕ → ℕ → Bool
wakes σ t u =
    let rest = (thread_of σ u).local.rest in
    meets (reads_left rest) (writes_left rest) (place σ t) (may_write (thread_of σ t).local)

-- t is in the set, and no thread outside could wake it
unfoldable pub sleeps_in : State → ℕ → ℕ → Bool
sleeps_in σ s t = has s t && all (λ u. has s u || not (wakes σ t u)) (range 0 6)

-- what is left of the set when those that some thread outside could wake have gone
unfoldable pub unwoken : State → ℕ → ℕ
unwoken σ s = set_of (sleeps_in σ s) 6

-- what is left when none goes any more; each round lowers the number
unfoldable pub settled : State → ℕ → ℕ → ℕ
settled σ zero s = 0
settled σ (suc k) s = elim (eqb (unwoken σ s) s) [ true ↦ s | false ↦ settled σ k (unwoken σ s) ]

-- the greatest part of the set that nothing outside of it could wake
unfoldable pub sleepers : State → ℕ → ℕ
sleepers σ s = settled σ s s
