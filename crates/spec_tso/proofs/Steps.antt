-- Who may step, and what a step touches: its own thread and its own location, and nothing else.
use Prim.Native.Nat.{ℕ, ◌-◌, ◌<◌, ◌≤◌}
use mathlib.Core.Path.{◌≡◌, refl, sym, ap, ◌∙◌}
use mathlib.Core.Logic.{◌≢◌}
use mathlib.Core.Bool.{true, false, true≢false}
use mathlib.Core.Option.{Option, none}
use native.Mathlib.Omega.{arith}
use native.Mathlib.Decide.{dec_lt}
use borrow.Author.Tests.{ltb-true, lt-ltb}
use lib.Dec.{ltb}
use lib.ListN.{length, length-set, get_or-eq_default}
use lib.Seq.{get_or-set_other, get_or-set_same, set-get_or, set_out}
use Rattle.spec_file.proofs.DigitValues.{both}
use Rattle.spec_sc.specs.Local.{begins_with_access, pending}
use Rattle.spec_sc.specs.State as SC
use Rattle.spec_sc.proofs.Change.{written_none}
use Rattle.spec_sc.proofs.Same.{both_and}
use Rattle.spec_tso.specs.Queue.{movable, free}
use Rattle.spec_tso.proofs.Bytes.{kind_for, owner_for}
use Rattle.spec_tso.specs.State.{Thread, State, idle, no_thread, thread_of, cell_of, locked, target, number_of, thread_behind, reaches, cell_behind, place, step_of, able, kind_of, owner, byte_for, step, enabled, Kind, access, move}

-- who may step: one of six threads that is able to
pub enabled_small : (σ : State) (b : ℕ) → enabled σ b ≡ true → owner b < 6
unfolding enabled
enabled_small σ b m = ltb-true (owner b) 6 (both (ltb (owner b) 6) _ m).0

pub enabled_able : (σ : State) (b : ℕ) → enabled σ b ≡ true → able (kind_of b) (thread_of σ (owner b)) (length σ.cells) ≡ true
unfolding enabled
enabled_able σ b m = (both (ltb (owner b) 6) _ m).1

pub enabled_of : (σ τ : State) (b : ℕ) → enabled τ b ≡ true → able (kind_of b) (thread_of σ (owner b)) (length σ.cells) ≡ true → enabled σ b ≡ true
unfolding enabled
enabled_of σ τ b m e = both_and (both (ltb (owner b) 6) _ m).0 e

-- of one of six threads, by kind and thread
pub enabled_for : (σ : State) (k : Kind) (t : ℕ) → t < 6 → enabled σ (byte_for k t) ≡ able k (thread_of σ t) (length σ.cells)
unfolding enabled
enabled_for σ k t h =
    let i : t < 16 = omega arith in
    let s = lt-ltb t 6 h in
    rw (owner_for k t i, kind_for k t i, s)

pub step_for : (σ : State) (k : Kind) (t : ℕ) → t < 16 → step σ (byte_for k t) ≡ step_of σ k t
unfolding step
step_for σ k t h = rw (owner_for k t h, kind_for k t h)

-- a number below sixteen, as a byte, is an access of that thread
pub step_access : (σ : State) (t : ℕ) → t < 16 → step σ t ≡ step_of σ access t
unfolding byte_for
step_access σ t h = step_for σ access t h

pub enabled_access : (σ : State) (t : ℕ) → t < 6 → enabled σ t ≡ able access (thread_of σ t) (length σ.cells)
unfolding byte_for
enabled_access σ t h = enabled_for σ access t h

-- what an access needs
pub able_pending : (h : Thread) (n : ℕ) → able access h n ≡ true → pending h.local ≡ true
unfolding able
able_pending h n e = (both (pending h.local) _ e).0

pub able_free : (h : Thread) (n : ℕ) → able access h n ≡ true → free (locked h.local) h.queue ≡ true
unfolding able
able_free h n e = (both (pending h.local) _ e).1

pub able_movable : (h : Thread) (n : ℕ) → able move h n ≡ true → movable h.queue n ≡ true
unfolding able
able_movable h n e = e

pub access_able : (h : Thread) (n : ℕ) → pending h.local ≡ true → free (locked h.local) h.queue ≡ true → able access h n ≡ true
unfolding able
access_able h n p f = both_and p f

-- a thread that does not exist does nothing
missing_able : (k : Kind) (n : ℕ) → able k no_thread n ≡ false
unfolding able idle no_thread SC.no_thread pending begins_with_access movable
missing_able access n = refl
missing_able move n = refl

pub missing : (σ : State) (t : ℕ) → length σ.threads ≤ t → thread_of σ t ≡ no_thread
unfolding thread_of
missing σ t h = get_or-eq_default σ.threads no_thread {n = t} h

pub able_range : (σ : State) (k : Kind) (t n : ℕ) → able k (thread_of σ t) n ≡ true → t < length σ.threads
able_range σ k t n e = go (dec_lt t (length σ.threads))
  where
    go : Dec (t < length σ.threads) → t < length σ.threads
    go (yes h) = h
    go (no h) = absurd (true≢false (sym e ∙ ap (λ (x : Thread). able k x n) (missing σ t (omega arith)) ∙ missing_able k n))

-- the thread that steps, and the others
pub thread_own : (σ : State) (k : Kind) (t : ℕ) → t < length σ.threads → thread_of (step_of σ k t) t ≡ thread_behind k t (thread_of σ t) (cell_of σ (place σ k t))
unfolding thread_of step_of
thread_own σ k t h = rw (get_or-set_same σ.threads)

pub thread_other : (σ : State) (k : Kind) (t u : ℕ) → u ≢ t → thread_of (step_of σ k t) u ≡ thread_of σ u
unfolding thread_of step_of
thread_other σ k t u ne = rw get_or-set_other

pub place_other : (σ : State) (k : Kind) (t : ℕ) (j : Kind) (u : ℕ) → u ≢ t → place (step_of σ k t) j u ≡ place σ j u
unfolding place
place_other σ k t j u ne = ap (target j) (thread_other σ k t u ne)

-- the location it goes to, and the others
pub cell_own : (σ : State) (k : Kind) (t : ℕ) → place σ k t < length σ.cells → cell_of (step_of σ k t) (place σ k t) ≡ cell_behind k t (thread_of σ t) (cell_of σ (place σ k t))
unfolding cell_of step_of
cell_own σ k t h = rw (get_or-set_same σ.cells)

pub cell_other : (σ : State) (k : Kind) (t l : ℕ) → l ≢ place σ k t → cell_of (step_of σ k t) l ≡ cell_of σ l
unfolding cell_of step_of
cell_other σ k t l ne = rw get_or-set_other

-- a location that does not exist stays as it is
pub cell_out : (σ : State) (k : Kind) (t l : ℕ) → length σ.cells ≤ place σ k t → cell_of (step_of σ k t) l ≡ cell_of σ l
unfolding cell_of step_of
cell_out σ k t l h = rw (set_out σ.cells)

-- what a step writes to memory
abbrev pub putting : State → Kind → ℕ → Option ℕ
putting σ k t = reaches k t (thread_of σ t) (cell_of σ (place σ k t))

-- nothing: memory stays as it is
pub still : (σ : State) (k : Kind) (t : ℕ) → putting σ k t ≡ none → (step_of σ k t).cells ≡ σ.cells
unfolding step_of cell_of cell_behind
still σ k t q = let e = written_none (t, number_of k (thread_of σ t)) (putting σ k t) (cell_of σ (place σ k t)) q in rw (e, set-get_or)

pub still_cell : (σ : State) (k : Kind) (t l : ℕ) → putting σ k t ≡ none → cell_of (step_of σ k t) l ≡ cell_of σ l
unfolding cell_of
still_cell σ k t l q = rw (still σ k t q)

-- as many threads and cells as before
pub step_of_threads : (σ : State) (k : Kind) (t : ℕ) → length (step_of σ k t).threads ≡ length σ.threads
unfolding step_of
step_of_threads σ k t = length-set σ.threads t _

pub step_of_cells : (σ : State) (k : Kind) (t : ℕ) → length (step_of σ k t).cells ≡ length σ.cells
unfolding step_of
step_of_cells σ k t = length-set σ.cells (place σ k t) _
