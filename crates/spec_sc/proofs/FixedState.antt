-- An exchange that moves threads only to threads in the same state, and none that has written, leaves the state as it is.
use Prim.Native.Nat.{ℕ, zero, suc, ◌<◌}
use mathlib.Core.Path.{◌≡◌, refl, sym, ap, ap₂, ◌∙◌}
use mathlib.Core.Logic.{⊎_elim}
use mathlib.Core.List.Memᴰ
use mathlib.Core.List.{List, [], ◌∷◌, map, Memᴰ}
use native.Mathlib.Omega.{arith}
use lib.ListN.{length, get_or}
use Rattle.spec_sc.specs.State.{Event, initial_write, Thread, Cell, State, fresh_cell, thread_of, cell_of}
use Rattle.spec_model.specs.Exchange.{Permutation}
use Rattle.spec_sc.specs.Exchange.{moved_event, moved_read, moved_reads, moved_writes, moved_thread, moved_cell, Moves}
use Rattle.spec_sc.proofs.Regular.{Written, Regular}

-- a write of a location stands in one of the cells
fresh_none : (e : Event) → Memᴰ e (fresh_cell 0).writes → ⊥
unfolding fresh_cell
fresh_none e m = Memᴰ.not-nil m

write_among : (cs : List Cell) (l : ℕ) (e : Event) → Memᴰ e (get_or cs l (fresh_cell 0)).writes → (c : Cell) × Memᴰ c cs × Memᴰ e c.writes
write_among [] l e m = absurd (fresh_none e m)
write_among (c ∷ cs) zero e m = (c, Memᴰ.head refl, m)
write_among (c ∷ cs) (suc l) e m = let r = write_among cs l e m in (r.0, Memᴰ.tail r.1, r.2)

pub write_cell : (σ : State) (l : ℕ) (e : Event) → Memᴰ e (cell_of σ l).writes → (c : Cell) × Memᴰ c σ.cells × Memᴰ e c.writes
unfolding cell_of
write_cell σ l e m = write_among σ.cells l e m

-- each cell is that of a location
cell_at : (cs : List Cell) (c : Cell) → Memᴰ c cs → (l : ℕ) × (get_or cs l (fresh_cell 0) ≡ c)
cell_at [] c m = absurd (Memᴰ.not-nil m)
cell_at (x ∷ cs) c m = ⊎_elim (λ (q : c ≡ x). (0, sym q)) (λ (k : Memᴰ c cs). let r = cell_at cs c k in (suc r.0, r.1)) (Memᴰ.cases_cons m)

pub cell_of_lem : (σ : State) (c : Cell) → Memᴰ c σ.cells → (l : ℕ) × (cell_of σ l ≡ c)
unfolding cell_of
cell_of_lem σ c m = cell_at σ.cells c m

module _ (π : ℕ → ℕ) where
  pub event_fixed : (e : Event) → π e.0 ≡ e.0 → moved_event π e ≡ e
  unfolding moved_event
  event_fixed e h = ap (λ (x : ℕ). let z : Event = (x, e.1) in z) h

  pub reads_fixed : (rs : List (ℕ × Event)) → ((r : ℕ × Event) → Memᴰ r rs → moved_event π r.1 ≡ r.1) → moved_reads π rs ≡ rs
  unfolding moved_reads moved_read
  reads_fixed [] h = refl
  reads_fixed (r ∷ rs) h = ap₂ (λ (a : ℕ × Event) (b : List (ℕ × Event)). a ∷ b) (ap (λ (e : Event). let z : ℕ × Event = (r.0, e) in z) (h r (Memᴰ.head refl))) (reads_fixed rs (λ x m. h x (Memᴰ.tail m)))

  pub writes_fixed : (es : List Event) → ((e : Event) → Memᴰ e es → moved_event π e ≡ e) → moved_writes π es ≡ es
  unfolding moved_writes
  writes_fixed [] h = refl
  writes_fixed (e ∷ es) h = ap₂ (λ (a : Event) (b : List Event). a ∷ b) (h e (Memᴰ.head refl)) (writes_fixed es (λ x m. h x (Memᴰ.tail m)))

  thread_fixed : (h : Thread) → ((r : ℕ × Event) → Memᴰ r h.history.reads → moved_event π r.1 ≡ r.1) → moved_thread π h ≡ h
  unfolding moved_thread
  thread_fixed h f = ap (λ (rd : List (ℕ × Event)). let z : Thread = record { local = h.local; history = record { done = h.history.done; reads = rd } } in z) (reads_fixed h.history.reads f)

  pub cells_fixed : (cs : List Cell) → ((c : Cell) → Memᴰ c cs → (e : Event) → Memᴰ e c.writes → moved_event π e ≡ e) → cs ≡ map (moved_cell π) cs
  unfolding moved_cell
  cells_fixed [] h = refl
  cells_fixed (c ∷ cs) h =
      ap₂ (λ (a : Cell) (b : List Cell). a ∷ b)
      (ap (λ (ws : List Event). let z : Cell = record { value = c.value; writes = ws } in z) (sym (writes_fixed c.writes (h c (Memᴰ.head refl)))))
      (cells_fixed cs (λ k m. h k (Memᴰ.tail m)))

-- no write noted anywhere is of a thread that π moves
abbrev pub Unmoved : (ℕ → ℕ) → State → Type 0
Unmoved π σ = (c : Cell) → Memᴰ c σ.cells → (e : Event) → Memᴰ e c.writes → π e.0 ≡ e.0

pub fixed_state : (π : ℕ → ℕ) → Permutation π → (σ : State) → Regular σ → ((t : ℕ) → thread_of σ (π t) ≡ thread_of σ t) → Unmoved π σ → ((t : ℕ) → t < length σ.threads → π t < length σ.threads) → Moves π σ σ
unfolding initial_write
fixed_state π q σ g same unmoved within = record {
  threads = λ t. same t ∙ sym (thread_fixed π (thread_of σ t) (source t));
  cells = cells_fixed π σ.cells (λ c m e i. event_fixed π e (unmoved c m e i));
  within = within;
}
  where
    source : (t : ℕ) (r : ℕ × Event) → Memᴰ r (thread_of σ t).history.reads → moved_event π r.1 ≡ r.1
    source t r m = ⊎_elim
        (λ (e : r.1 ≡ initial_write). let a : r.1.0 ≡ 255 = ap (λ (z : Event). z.0) e in event_fixed π r.1 (q.stays r.1.0 (omega arith)))
        (λ (k : Written σ r.1). let c = write_cell σ k.0 r.1 k.1 in event_fixed π r.1 (unmoved c.0 c.1 r.1 c.2))
        (g.sourced t r m)
