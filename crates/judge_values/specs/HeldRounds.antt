-- How the judge's arrays hold a thread that runs by itself, and a round. For the judge's own functions: nothing here is needed to read
-- `judge`.
use Rattle.std.specs.Prelude.{ℕ, ◌+◌, ◌*◌, ◌<◌, ◌≡◌, cond, List, ltb, get_or}
use Rattle.spec_file.specs.Program.{Program}
use Rattle.machine_access.specs.declared.thread.ThreadState.{ThreadState}
use Rattle.machine.specs.declared.state.Machine.{Machine}
use Rattle.spec_sc.specs.Local.{place_of, puts, next}
use Rattle.spec_sc.specs.State.{State, thread_of, start}
use Rattle.machine.specs.Held.{thread_at, Holds}
use Rattle.judge_values.specs.declared.by_itself.Lone.{Lone}
use Rattle.spec_judge.specs.Consistent.{Values, location_of, out_of}
use Rattle.spec_judge.proofs.RoundValues.{or_zero}

-- `threads` are those of some machine before the first step
pub record Opened (code lengths : List ℕ) (p : Program) (threads : List ThreadState) : Type 0 where
  pub machine : Machine
  pub all : machine.threads ≡ threads
  pub holds : Holds code lengths machine (start p)

-- the next access of thread t, on finding x: the thread behind it, which stands so on some machine, where it goes and what it leaves there
pub record MetAlone (code lengths : List ℕ) (σ : State) (t x : ℕ) (r : Lone) : Type 0 where
  pub machine : Machine
  pub state : State
  pub holds : Holds code lengths machine state
  pub here : thread_at machine t ≡ r.thread
  pub local : (thread_of state t).local ≡ next (thread_of σ t).local x
  pub place : r.place ≡ place_of (thread_of σ t).local
  pub left : r.left ≡ or_zero (puts (thread_of σ t).local x)

-- a table's values, sixteen a thread
abbrev pub values_in : List ℕ → Values
values_in vs e = get_or vs (e.0 * 16 + e.1) 0

-- what a round finds on these values, for the accesses of n threads: where each goes and what it leaves there
pub record RoundHeld (n : ℕ) (p : Program) (vs places left : List ℕ) : Type 0 where
  pub at : (t i : ℕ) → t < n → i < 16 → get_or places (t * 16 + i) 0 ≡ location_of p (values_in vs) (t, i)
  pub leaves : (t i : ℕ) → t < n → i < 16 → get_or left (t * 16 + i) 0 ≡ or_zero (out_of p (values_in vs) (t, i))

-- what is left behind the source in entry k of a graph's table: what memory starts with, where the entry names no event
unfoldable pub sourced : List ℕ → List ℕ → List ℕ → List ℕ → ℕ → ℕ
sourced table left places starting k =
    let first = get_or starting (get_or places k 0) 0 in
    cond (ltb (get_or table (k * 2) 0) 6)
    (cond (ltb (get_or table (k * 2 + 1) 0) 16) (get_or left (get_or table (k * 2) 0 * 16 + get_or table (k * 2 + 1) 0) 0) first) first
