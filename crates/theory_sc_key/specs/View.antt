-- ONE VIEW OF TWO STATES: each thread has the same code left and the same in live registers, and each location holds the same value. What was read and
-- written before, and what failed, is not seen.
use Rattle.std.specs.Prelude.{ℕ, ◌≡◌, Bool}
use Rattle.spec_sc.specs.Local.{next}
use Rattle.spec_sc.specs.State.{State, thread_of, cell_of, place}
use Rattle.theory_sc_key.specs.Registers.{Like}

pub record SameView (σ τ : State) : Type 0 where
  pub threads : (t : ℕ) → Like (thread_of σ t).local (thread_of τ t).local
  pub values : (l : ℕ) → (cell_of σ l).value ≡ (cell_of τ l).value

-- whether an assertion fails in the step of thread t
unfoldable pub breaks : State → ℕ → Bool
breaks σ t = (next (thread_of σ t).local (cell_of σ (place σ t)).value).failed
