-- WHAT IS SEEN OF A STATE under total store order: of each thread the code left and its live registers, and the location and value of each of its
-- pending stores, oldest first; and the values of memory. What was read and written before, under which number, and what failed is not seen.
use Rattle.std.specs.Prelude.{ℕ, ◌≡◌, Bool, false, List, map}
use Rattle.spec_sc.specs.Local.{next}
use Rattle.spec_sc.specs.State.{value_of}
use Rattle.theory_sc_key.specs.Registers.{Like}
use Rattle.spec_tso.specs.Queue.{Entry}
use Rattle.spec_tso.specs.State.{Thread, State, Kind, access, move, thread_of, cell_of, finds, place, kind_of, owner}

-- a pending store, whatever the number of its access
unfoldable pub unnumbered : Entry → Entry
unnumbered e = record { number = 0; location = e.location; value = e.value }

-- what is pending
abbrev pub waiting : Thread → List Entry
waiting h = map unnumbered h.queue

-- the same is seen of two threads
pub record Alike (h k : Thread) : Type 0 where
  pub local : Like h.local k.local
  pub queue : waiting h ≡ waiting k

-- and of two states
pub record SameView (σ τ : State) : Type 0 where
  pub threads : (t : ℕ) → Alike (thread_of σ t) (thread_of τ t)
  pub memory : map value_of σ.cells ≡ map value_of τ.cells

-- whether an assertion fails in the step b: its thread has failed behind it. A move never fails.
unfoldable pub breaks_by : Kind → State → ℕ → Bool
breaks_by access σ t = (next (thread_of σ t).local (finds t (thread_of σ t) (cell_of σ (place σ access t))).value).failed
breaks_by move σ t = false

unfoldable pub breaks : State → ℕ → Bool
breaks σ b = breaks_by (kind_of b) σ (owner b)
