-- What a step touches: its own thread and its own location, and nothing else.
use Prim.Native.Nat.{ℕ, ◌<◌, ◌≤◌}
use mathlib.Core.Path.{◌≡◌, refl, sym, ap, ◌∙◌}
use mathlib.Core.Logic.{◌≢◌}
use mathlib.Core.Bool.{Bool, true, false, true≢false, false≢true}
use mathlib.Core.List.{[], ◌∷◌}
use native.Mathlib.Omega.{arith}
use native.Mathlib.Decide.{dec_lt}
use borrow.Author.Tests.{ltb-true, lt-ltb}
use lib.Dec.{ltb}
use lib.ListN.{length, length-set, get_or-eq_default}
use lib.Seq.{get_or-set_other, get_or-set_same}
use Rattle.spec_schedules.specs.Order.{Schedule}
use Rattle.spec_schedules.specs.System.{run}
use Rattle.spec_sc.specs.Local.{begins_with_access, pending, place_of}
use Rattle.spec_sc.specs.State.{State, Thread, no_thread, thread_of, cell_of, place, advanced, met, step, enabled, SC}

-- who may step: one of the six numbers, of a thread before an access
pub enabled_small : (σ : State) (t : ℕ) → enabled σ t ≡ true → t < 6
unfolding enabled
enabled_small σ t m = go (ltb t 6) refl
  where
    go : (b : Bool) → ltb t 6 ≡ b → t < 6
    go true e = ltb-true t 6 e
    go false e = absurd (false≢true (rw (e, enabled) at m))

pub enabled_pending : (σ : State) (t : ℕ) → enabled σ t ≡ true → pending (thread_of σ t).local ≡ true
unfolding enabled
enabled_pending σ t m = let e = lt-ltb t 6 (enabled_small σ t m) in rw (e, enabled) at m

pub enabled_of : (σ : State) (t : ℕ) → t < 6 → pending (thread_of σ t).local ≡ true → enabled σ t ≡ true
unfolding enabled
enabled_of σ t h e = let k = lt-ltb t 6 h in rw (k, enabled) e

-- whether a number may step goes by its local state alone
pub enabled_same : (σ τ : State) (t : ℕ) → thread_of σ t ≡ thread_of τ t → enabled σ t ≡ enabled τ t
unfolding enabled
enabled_same σ τ t e = ap (λ (h : Thread). elim (ltb t 6) [ true ↦ pending h.local | false ↦ false ]) e

no_thread_pending : pending no_thread.local ≡ false
unfolding pending begins_with_access no_thread
no_thread_pending = refl

-- a thread that does not exist has ended
pub missing : (σ : State) (t : ℕ) → length σ.threads ≤ t → thread_of σ t ≡ no_thread
unfolding thread_of
missing σ t h = get_or-eq_default σ.threads no_thread {n = t} h

pub in_range_lem : (σ : State) (t : ℕ) → pending (thread_of σ t).local ≡ true → t < length σ.threads
in_range_lem σ t e = go (dec_lt t (length σ.threads))
  where
    go : Dec (t < length σ.threads) → t < length σ.threads
    go (yes h) = h
    go (no h) = absurd (true≢false (sym e ∙ ap (λ (k : Thread). pending k.local) (missing σ t (omega arith)) ∙ no_thread_pending))

pub enabled_range : (σ : State) (t : ℕ) → enabled σ t ≡ true → t < length σ.threads
enabled_range σ t m = in_range_lem σ t (enabled_pending σ t m)

-- the thread that steps, and the others
pub thread_own : (σ : State) (t : ℕ) → t < length σ.threads → thread_of (step σ t) t ≡ advanced (thread_of σ t) (cell_of σ (place σ t))
unfolding thread_of step
thread_own σ t h = rw (get_or-set_same σ.threads)

pub thread_other : (σ : State) (a b : ℕ) → b ≢ a → thread_of (step σ a) b ≡ thread_of σ b
unfolding thread_of step
thread_other σ a b ne = rw get_or-set_other

pub place_other : (σ : State) (a b : ℕ) → b ≢ a → place (step σ a) b ≡ place σ b
unfolding place
place_other σ a b ne = ap (λ (h : Thread). place_of h.local) (thread_other σ a b ne)

pub enabled_other : (σ : State) (a b : ℕ) → b ≢ a → enabled (step σ a) b ≡ enabled σ b
enabled_other σ a b ne = enabled_same (step σ a) σ b (thread_other σ a b ne)

-- the location it goes to, and the others
pub cell_own : (σ : State) (t : ℕ) → place σ t < length σ.cells → cell_of (step σ t) (place σ t) ≡ met t (thread_of σ t) (cell_of σ (place σ t))
unfolding cell_of step
cell_own σ t h = rw (get_or-set_same σ.cells)

pub cell_other : (σ : State) (t l : ℕ) → l ≢ place σ t → cell_of (step σ t) l ≡ cell_of σ l
unfolding cell_of step
cell_other σ t l ne = rw get_or-set_other

-- as many threads and cells as before
pub step_threads : (σ : State) (t : ℕ) → length (step σ t).threads ≡ length σ.threads
unfolding step
step_threads σ t = length-set σ.threads t _

pub step_cells : (σ : State) (t : ℕ) → length (step σ t).cells ≡ length σ.cells
unfolding step
step_cells σ t = length-set σ.cells (place σ t) _

pub run_threads : (s : Schedule) (σ : State) → length (run SC σ s).threads ≡ length σ.threads
unfolding run
run_threads [] σ = refl
run_threads (t ∷ s) σ = run_threads s (step σ t) ∙ step_threads σ t

pub run_cells : (s : Schedule) (σ : State) → length (run SC σ s).cells ≡ length σ.cells
unfolding run
run_cells [] σ = refl
run_cells (t ∷ s) σ = run_cells s (step σ t) ∙ step_cells σ t
