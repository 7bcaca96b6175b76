-- T2, the exchange law, from any state: where one state is another with its threads exchanged by π, a step of t in the one and of π t in the
-- other leave states so related. So whole schedules, the graphs and the outcomes at their ends follow.
use Prim.Native.Nat.{ℕ, zero, suc, ◌<◌}
use mathlib.Core.Path.{◌≡◌, refl, sym, ap, ap₂, ◌∙◌}
use mathlib.Core.Bool.{Bool, true, false}
use mathlib.Core.Option.{Option, none, some}
use mathlib.Core.List.{List, [], ◌∷◌, map}
use native.Mathlib.Omega.{arith}
use native.Mathlib.Decide.{ℕ_discrete, dec_lt}
use borrow.Author.Tests.{lt-ltb}
use lib.Dec.{ltb}
use lib.ListN.{length, get_or, set, get_or-map}
use Rattle.spec_schedules.specs.Order.{Schedule}
use Rattle.spec_schedules.specs.System.{run, ended, FullFrom}
use Rattle.spec_schedules.proofs.Runs.{ended_of, ended_none}
use Rattle.spec_sc.specs.Local.{pending, place_of, takes, puts}
use Rattle.spec_sc.specs.State.{Event, initial_write, History, Thread, Cell, State, fresh_cell, thread_of, cell_of, place, latest, noted, advanced, written, met, step, enabled, SC, value_of, memory_of}
use Rattle.spec_sc.specs.Graph.{writes_of, graph_of}
use Rattle.spec_model.specs.Exchange.{Permutation}
use Rattle.spec_sc.specs.Exchange.{moved_event, moved_read, moved_reads, moved_writes, moved_thread, moved_cell, Moves, Renames}
use Rattle.spec_sc.proofs.ExchangeTerms.{moved_schedule}
use Rattle.spec_sc.proofs.Steps.{enabled_range, thread_own, thread_other, step_threads}
use Rattle.spec_sc.proofs.Lawful.{lawful}
use Rattle.spec_sc.proofs.Rows.{row_at}
use Rattle.spec_model.proofs.Exchanges.{injective}

pub map_set : {A B : Type 0} (f : A → B) (l : List A) (i : ℕ) (a : A) → set (map f l) i (f a) ≡ map f (set l i a)
map_set f [] i a = refl
map_set f (x ∷ xs) zero a = refl
map_set {B} f (x ∷ xs) (suc i) a = ap {B = List B} (λ k. f x ∷ k) (map_set f xs i a)

-- a permutation keeps which numbers are below six
pub small : (π : ℕ → ℕ) → Permutation π → (t : ℕ) → ltb (π t) 6 ≡ ltb t 6
small π q t = go (dec_lt t 6)
  where
    go : Dec (t < 6) → ltb (π t) 6 ≡ ltb t 6
    go (yes h) = lt-ltb (π t) 6 (q.below t h) ∙ sym (lt-ltb t 6 h)
    go (no h) = ap (λ (k : ℕ). ltb k 6) (q.stays t (omega arith))

-- the parts of an access, exchanged
pub latest_moved : (π : ℕ → ℕ) → Permutation π → (ws : List Event) → latest (moved_writes π ws) ≡ moved_event π (latest ws)
unfolding latest moved_writes moved_event initial_write
latest_moved π q [] = ap (λ (x : ℕ). let e : Event = (x, 255) in e) (sym (q.stays 255 (omega arith)))
latest_moved π q (e ∷ ws) = refl

abbrev pub moved_history : (ℕ → ℕ) → History → History
moved_history π h = record { done = h.done; reads = moved_reads π h.reads }

pub noted_moved : (π : ℕ → ℕ) (b : Bool) (e : Event) (h : History) → noted b (moved_event π e) (moved_history π h) ≡ moved_history π (noted b e h)
unfolding noted moved_reads moved_read
noted_moved π true e h = refl
noted_moved π false e h = refl

pub written_moved : (π : ℕ → ℕ) (e : Event) (o : Option ℕ) (c : Cell) → written (moved_event π e) o (moved_cell π c) ≡ moved_cell π (written e o c)
unfolding written moved_cell moved_writes
written_moved π e none c = refl
written_moved π e (some v) c = refl

advanced_moved : (π : ℕ → ℕ) → Permutation π → (h : Thread) (c : Cell) → advanced (moved_thread π h) (moved_cell π c) ≡ moved_thread π (advanced h c)
unfolding advanced moved_thread moved_cell
advanced_moved π q h c =
    rw (latest_moved π q c.writes)
    (ap (λ (k : History). let x : Thread = record { local = (advanced h c).local; history = k } in x) (noted_moved π (takes h.local) (latest c.writes) h.history))

met_moved : (π : ℕ → ℕ) (t : ℕ) (h : Thread) (c : Cell) → met (π t) (moved_thread π h) (moved_cell π c) ≡ moved_cell π (met t h c)
unfolding met moved_thread moved_cell moved_event
met_moved π t h c = written_moved π (t, h.history.done) (puts h.local c.value) c

module _ (π : ℕ → ℕ) (q : Permutation π) where
  module _ (σ τ : State) (m : Moves π σ τ) where
    pub moves_place : (t : ℕ) → place τ (π t) ≡ place σ t
    unfolding place moved_thread
    moves_place t = ap (λ (h : Thread). place_of h.local) (m.threads t)

    pub moves_cell : (l : ℕ) → cell_of τ l ≡ moved_cell π (cell_of σ l)
    unfolding cell_of moved_cell moved_writes fresh_cell
    moves_cell l = ap (λ (cs : List Cell). get_or cs l (fresh_cell 0)) m.cells ∙ get_or-map (moved_cell π) σ.cells l (fresh_cell 0)

    pub moves_enabled : (t : ℕ) → enabled τ (π t) ≡ enabled σ t
    unfolding enabled moved_thread
    moves_enabled t = ap₂ (λ (b : Bool) (h : Thread). elim b [ true ↦ pending h.local | false ↦ false ]) (small π q t) (m.threads t)

    moves_here : (t : ℕ) → cell_of τ (place τ (π t)) ≡ moved_cell π (cell_of σ (place σ t))
    moves_here t = ap (cell_of τ) (moves_place t) ∙ moves_cell (place σ t)

    moves_advanced : (t : ℕ) → advanced (thread_of τ (π t)) (cell_of τ (place τ (π t))) ≡ moved_thread π (advanced (thread_of σ t) (cell_of σ (place σ t)))
    moves_advanced t = ap₂ advanced (m.threads t) (moves_here t) ∙ advanced_moved π q (thread_of σ t) (cell_of σ (place σ t))

    moves_met : (t : ℕ) → met (π t) (thread_of τ (π t)) (cell_of τ (place τ (π t))) ≡ moved_cell π (met t (thread_of σ t) (cell_of σ (place σ t)))
    moves_met t = ap₂ (met (π t)) (m.threads t) (moves_here t) ∙ met_moved π t (thread_of σ t) (cell_of σ (place σ t))

    step_cells : (t : ℕ) → (step τ (π t)).cells ≡ map (moved_cell π) (step σ t).cells
    unfolding step
    step_cells t = rw (moves_met t, moves_place t, m.cells) (map_set (moved_cell π) σ.cells (place σ t) (met t (thread_of σ t) (cell_of σ (place σ t))))

    -- ONE STEP
    pub moves_step : (t : ℕ) → enabled σ t ≡ true → Moves π (step σ t) (step τ (π t))
    moves_step t k = record {
      threads = λ u. at u (ℕ_discrete u t);
      cells = step_cells t;
      within = λ u i. let a = step_threads σ t in let b = step_threads τ (π t) in let c = m.within u (omega arith) in omega arith;
    }
      where
        r : t < length σ.threads
        r = enabled_range σ t k

        at : (u : ℕ) → Dec (u ≡ t) → thread_of (step τ (π t)) (π u) ≡ moved_thread π (thread_of (step σ t) u)
        at u (yes e) =
            ap (λ (x : ℕ). thread_of (step τ (π t)) (π x)) e ∙ thread_own τ (π t) (m.within t r) ∙ moves_advanced t
            ∙ ap (moved_thread π) (sym (thread_own σ t r) ∙ ap (thread_of (step σ t)) (sym e))
        at u (no e) = thread_other τ (π t) (π u) (λ i. e (injective π q u t i)) ∙ m.threads u ∙ ap (moved_thread π) (sym (thread_other σ t u e))

    pub moves_ended : ended SC σ ≡ true → ended SC τ ≡ true
    moves_ended e = ended_of SC τ (λ u. ap (enabled τ) (sym (q.after_inverse u)) ∙ moves_enabled (q.inverse u) ∙ ended_none SC lawful σ (q.inverse u) e)

  -- WHOLE SCHEDULES: what is full from the one is, exchanged, full from the other, and the ends are related
  pub moves_full : (z : Schedule) (σ τ : State) → Moves π σ τ → FullFrom SC σ z → FullFrom SC τ (moved_schedule π z) × Moves π (run SC σ z) (run SC τ (moved_schedule π z))
  unfolding run moved_schedule
  moves_full [] σ τ m f = (moves_ended σ τ m f, m)
  moves_full (t ∷ z) σ τ m f =
      let r = moves_full z (step σ t) (step τ (π t)) (moves_step σ τ m t f.0) f.1 in
      ((moves_enabled σ τ m t ∙ f.0, r.0), r.1)

writes_moved : (π : ℕ → ℕ) (cs : List Cell) → map writes_of (map (moved_cell π) cs) ≡ map (moved_writes π) (map writes_of cs)
unfolding writes_of moved_cell
writes_moved π [] = refl
writes_moved π (c ∷ cs) = ap (λ (k : List (List Event)). moved_writes π c.writes ∷ k) (writes_moved π cs)

-- related states have related graphs
pub moves_graph : (π : ℕ → ℕ) (σ τ : State) → Moves π σ τ → Renames π (graph_of σ) (graph_of τ)
unfolding graph_of moved_thread
moves_graph π σ τ m = record {
  reads = λ t h. row_at τ (π t) ∙ ap (λ (x : Thread). x.history.reads) (m.threads t) ∙ ap (moved_reads π) (sym (row_at σ t));
  writes = ap (map writes_of) m.cells ∙ writes_moved π σ.cells;
}

values_moved : (π : ℕ → ℕ) (cs : List Cell) → map value_of (map (moved_cell π) cs) ≡ map value_of cs
unfolding value_of moved_cell
values_moved π [] = refl
values_moved π (c ∷ cs) = ap (λ (k : List ℕ). c.value ∷ k) (values_moved π cs)

-- exchanged states have the same memory
pub moves_memory : (π : ℕ → ℕ) (σ τ : State) → Moves π σ τ → memory_of τ ≡ memory_of σ
unfolding memory_of
moves_memory π σ τ m = ap (map value_of) m.cells ∙ values_moved π σ.cells
