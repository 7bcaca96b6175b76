-- T1, the swap law: two steps of different threads that go to different locations, or that both leave theirs as it is, commute. It is an
-- equation of whole states, and each step does after the other what it would have done before it.
use Prim.Native.Nat.{ℕ}
use mathlib.Core.Path.{◌≡◌, refl, sym, ap₂, ◌∙◌}
use mathlib.Core.Logic.{◌≢◌, ◌⊎◌, inl, inr, Ne-symm}
use mathlib.Core.Bool.{false, true≢false}
use mathlib.Core.List.{List}
use mathlib.Core.Option.{Option, none, some}
use lib.ListN.{set}
use lib.Seq.{set-get_or, set_comm}
use Rattle.spec_sc.specs.State.{Event, State, Thread, Cell, thread_of, cell_of, place, advanced, written, met, step}
use Rattle.spec_sc.specs.Actions.{given, writes, action}
use Rattle.spec_sc.proofs.Steps.{thread_other, place_other, cell_other}

-- the two next accesses go to different locations, or neither writes
abbrev pub Independent : State → ℕ → ℕ → Type 0
Independent σ a b = (place σ a ≢ place σ b) ⊎ ((writes σ a ≡ false) × (writes σ b ≡ false))

pub independent_sym : (σ : State) (a b : ℕ) → Independent σ a b → Independent σ b a
independent_sym σ a b (inl ne) = inl (Ne-symm ne)
independent_sym σ a b (inr w) = inr (w.1, w.0)

written_none : (e : Event) (o : Option ℕ) (c : Cell) → given o ≡ false → written e o c ≡ c
unfolding written given
written_none e none c q = refl
written_none e (some v) c q = absurd (true≢false q)

-- a step that writes nothing leaves its cell, so memory, as it is
pub still : (σ : State) (t : ℕ) → writes σ t ≡ false → met t (thread_of σ t) (cell_of σ (place σ t)) ≡ cell_of σ (place σ t)
unfolding met writes
still σ t w = written_none _ _ _ w

pub still_cells : (σ : State) (t : ℕ) → writes σ t ≡ false → (step σ t).cells ≡ σ.cells
unfolding step cell_of
still_cells σ t w = let s = still σ t w in rw (s, set-get_or)

-- after an independent step a thread finds the same cell
pub cell_after : (σ : State) (a b : ℕ) → Independent σ a b → cell_of (step σ a) (place σ b) ≡ cell_of σ (place σ b)
unfolding cell_of
cell_after σ a b (inl ne) = cell_other σ a (place σ b) (Ne-symm ne)
cell_after σ a b (inr w) = rw (still_cells σ a w.0)

pub writes_after : (σ : State) (a b : ℕ) → b ≢ a → Independent σ a b → writes (step σ a) b ≡ writes σ b
unfolding writes
writes_after σ a b ne i = rw (place_other σ a b ne, thread_other σ a b ne, cell_after σ a b i)

-- each keeps its access and its effect
pub action_after : (σ : State) (a b : ℕ) → b ≢ a → Independent σ a b → action (step σ a) b ≡ action σ b
unfolding action
action_after σ a b ne i = rw (place_other σ a b ne, writes_after σ a b ne i)

abbrev both : List Thread → List Cell → State
both ts cs = record { threads = ts; cells = cs }

abbrev thread_of_lem : State → ℕ → Thread
thread_of_lem σ t = advanced (thread_of σ t) (cell_of σ (place σ t))

abbrev cell_of_lem : State → ℕ → Cell
cell_of_lem σ t = met t (thread_of σ t) (cell_of σ (place σ t))

-- a step after another one is the step that it was before
after : (σ : State) (a b : ℕ) → b ≢ a → Independent σ a b → step (step σ a) b ≡ both (set (step σ a).threads b (thread_of_lem σ b)) (set (step σ a).cells (place σ b) (cell_of_lem σ b))
unfolding step
after σ a b ne i = rw (place_other σ a b ne, thread_other σ a b ne, cell_after σ a b i)

swap_threads : (σ : State) (a b : ℕ) → a ≢ b → set (step σ a).threads b (thread_of_lem σ b) ≡ set (step σ b).threads a (thread_of_lem σ a)
unfolding step
swap_threads σ a b ne = set_comm σ.threads a b _ _ ne

swap_cells : (σ : State) (a b : ℕ) → Independent σ a b → set (step σ a).cells (place σ b) (cell_of_lem σ b) ≡ set (step σ b).cells (place σ a) (cell_of_lem σ a)
unfolding step cell_of
swap_cells σ a b (inl ne) = set_comm σ.cells (place σ a) (place σ b) _ _ ne
swap_cells σ a b (inr w) = let s = still σ a w.0 in let u = still σ b w.1 in simp (s, u, set-get_or)

pub swap : (σ : State) (a b : ℕ) → a ≢ b → Independent σ a b → step (step σ a) b ≡ step (step σ b) a
swap σ a b ne i =
    after σ a b (Ne-symm ne) i ∙ ap₂ both (swap_threads σ a b ne) (swap_cells σ a b i) ∙ sym (after σ b a ne (independent_sym σ a b i))
