-- What the steps of a run did: for each its thread, its location and whether it wrote. Two steps of one thread, and two at one location
-- of which one writes, must keep their order; any others may be exchanged.
use Rattle.std.specs.Prelude.{ℕ, Bool, true, false, eqb}
use Rattle.std.proofs.Math.Option.{Option, none, some}
use Rattle.spec_sc.specs.Local.{puts}
use Rattle.spec_sc.specs.State.{State, thread_of, cell_of, place}

pub record Action : Type 0 where
  pub thread : ℕ
  pub location : ℕ
  pub wrote : Bool

unfoldable pub given : Option ℕ → Bool
given none = false
given (some v) = true

-- whether thread t's next access writes
unfoldable pub writes : State → ℕ → Bool
writes σ t = given (puts (thread_of σ t).local (cell_of σ (place σ t)).value)

-- what a step of thread t does
unfoldable pub action : State → ℕ → Action
action σ t = record { thread = t; location = place σ t; wrote = writes σ t }

-- the thread of an action
unfoldable pub who : Action → ℕ
who a = a.thread

-- two actions conflict where they have one location and one of them writes
unfoldable pub conflict : Action → Action → Bool
conflict a b = elim (eqb a.location b.location) [ true ↦ elim a.wrote [ true ↦ true | false ↦ b.wrote ] | false ↦ false ]
