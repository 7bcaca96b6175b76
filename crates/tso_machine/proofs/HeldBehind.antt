-- A step put back into the arrays: the thread that stepped, its location, its queue, and all others as they were.
use Prim.Native.Nat.{ℕ, ◌+◌, ◌<◌, ◌≤◌}
use native.Mathlib.Omega.{arith}
use native.Mathlib.Decide.{ℕ_discrete}
use mathlib.Core.Path.{◌≡◌, sym, ap, subst, ◌∙◌}
use mathlib.Core.Logic.{◌≢◌}
use mathlib.Core.Bool.{true}
use mathlib.Core.Option.{none, some}
use mathlib.Core.List.{List}
use lib.ListN.{length, get_or, set, length-set}
use lib.Seq.{get_or-set_same, get_or-set_other}
use Rattle.spec_file.specs.WellFormed.{accesses}
use Rattle.file_rows.specs.Rows.{thread_code}
use Rattle.spec_sc.specs.State.{Cell, latest}
use Rattle.machine.specs.declared.state.LastWrite.{LastWrite}
use Rattle.machine.specs.Held.{thread_at, last_at, unwritten, event_of, HoldsThread}
use Rattle.machine_access.specs.declared.thread.ThreadState.{ThreadState}
use Rattle.spec_tso.specs.State.{Thread, State, Kind, thread_of, cell_of, unqueued, number_of, thread_behind, place, step_of, able}
use Rattle.spec_tso.proofs.Steps.{able_range, cell_other, putting, still_cell, step_of_threads, step_of_cells}
use Rattle.spec_tso.proofs.Change.{thread_cases, wrote_own}
use Rattle.tso_machine.specs.declared.state.QueuedMachine.{QueuedMachine}
use Rattle.tso_machine.specs.Held.{core_of, head_at, tail_at, limit_at, slot_at, queue_of, Holds}
use Rattle.tso_machine.proofs.HeldCore.{core_six, core_eight, core_thread, core_registers, core_value, core_source, core_of_lem}

-- memory and last writes hold the cells of this state
pub record Cells (n : QueuedMachine) (σ : State) : Type 0 where
  pub sizes : (length n.memory ≡ 8) × (length n.last ≡ 8)
  pub values : (l : ℕ) → l < 8 → (cell_of σ l).value ≡ get_or n.memory l 0
  pub sources : (l : ℕ) → l < 8 → latest (cell_of σ l).writes ≡ event_of (last_at (core_of n) l)

-- what the machine n has behind a step of thread t from the state that m holds
pub record Behind (code lengths : List ℕ) (m n : QueuedMachine) (σ : State) (k : Kind) (t : ℕ) : Type 0 where
  pub sizes : (length n.threads ≡ 6) × (length n.heads ≡ 6) × (length n.tails ≡ 6) × (length n.slots ≡ 16)
  pub own : HoldsThread (thread_code code t (get_or lengths t 0)) (thread_at (core_of n) t) (unqueued (thread_behind k t (thread_of σ t) (cell_of σ (place σ k t))))
  pub registers : (thread_behind k t (thread_of σ t) (cell_of σ (place σ k t))).local.registers ≡ (thread_at (core_of n) t).registers
  pub short : (thread_at (core_of n) t).at < get_or lengths t 0 → get_or lengths t 0 ≤ 16
  pub others : (u : ℕ) → u ≢ t → thread_at (core_of n) u ≡ thread_at (core_of m) u
  pub cells : Cells n (step_of σ k t)
  pub queue : (thread_behind k t (thread_of σ t) (cell_of σ (place σ k t))).queue ≡ queue_of n t
  pub queues : (u : ℕ) → u < 6 → u ≢ t → queue_of n u ≡ queue_of m u
  pub ordered : (u : ℕ) → u < 6 → head_at n u ≤ tail_at n u
  pub own_room : tail_at n t + accesses (thread_behind k t (thread_of σ t) (cell_of σ (place σ k t))).local.rest ≤ limit_at n t
  pub room : (u : ℕ) → u < 6 → u ≢ t → (tail_at n u ≡ tail_at m u) × (limit_at m u ≤ limit_at n u)
  pub places : (j : ℕ) → j < 16 → (slot_at n j).location < 8

module _ (code lengths : List ℕ) (m n : QueuedMachine) (σ : State) (k : Kind) (t : ℕ) (held : Holds code lengths m σ) (six : t < 6)
    (ok : able k (thread_of σ t) (length σ.cells) ≡ true) where
  inside : t < length σ.threads
  inside = able_range σ k t (length σ.cells) ok

  pub holds_behind : Behind code lengths m n σ k t → Holds code lengths n (step_of σ k t)
  holds_behind b = record {
    core = core_of_lem code lengths (core_of n) (step_of σ k t)
        (b.sizes.0, b.cells.sizes.0, b.cells.sizes.1) (omega (arith, step_of_threads σ k t, core_six held)) (step_of_cells σ k t ∙ core_eight held)
        (λ u h. thread_cases (λ (v : ℕ) (g : Thread). v < 6 → HoldsThread (thread_code code v (get_or lengths v 0)) (thread_at (core_of n) v) (unqueued g)) σ k t inside (λ i. b.own) u
        (λ ne i. subst (λ (j : ThreadState). HoldsThread (thread_code code u (get_or lengths u 0)) j (unqueued (thread_of σ u))) (sym (b.others u ne)) (core_thread held u i)) h)
        (λ u h. thread_cases (λ (v : ℕ) (g : Thread). v < length σ.threads → g.local.registers ≡ (thread_at (core_of n) v).registers) σ k t inside (λ i. b.registers) u
        (λ ne i. core_registers held u i ∙ ap (λ (j : ThreadState). j.registers) (sym (b.others u ne))) (omega (arith, step_of_threads σ k t)))
        b.cells.values b.cells.sources;
    sizes = (b.sizes.1, b.sizes.2, b.sizes.3);
    short = λ u h. shortly u h (ℕ_discrete u t);
    queues = λ u h. thread_cases (λ (v : ℕ) (g : Thread). v < 6 → g.queue ≡ queue_of n v) σ k t inside (λ i. b.queue) u (λ ne i. held.queues u i ∙ sym (b.queues u i ne)) h;
    ordered = b.ordered;
    room = λ u h. thread_cases (λ (v : ℕ) (g : Thread). v < 6 → tail_at n v + accesses g.local.rest ≤ limit_at n v) σ k t inside (λ i. b.own_room) u
        (λ ne i. omega (arith, held.room u i, (b.room u i ne).0, (b.room u i ne).1)) h;
    places = b.places;
  }
    where
      shortly : (u : ℕ) → u < 6 → Dec (u ≡ t) → (thread_at (core_of n) u).at < get_or lengths u 0 → get_or lengths u 0 ≤ 16
      shortly u h (yes q) = subst (λ (v : ℕ). (thread_at (core_of n) v).at < get_or lengths v 0 → get_or lengths v 0 ≤ 16) (sym q) b.short
      shortly u h (no q) = subst (λ (j : ThreadState). j.at < get_or lengths u 0 → get_or lengths u 0 ≤ 16) (sym (b.others u q)) (held.short u h)

  -- ---- the cells: nothing was put
  pub cells_still : putting σ k t ≡ none → n.memory ≡ m.memory → n.last ≡ m.last → Cells n (step_of σ k t)
  cells_still e em el = record {
    sizes = (ap length em ∙ held.core.sizes.1, ap length el ∙ held.core.sizes.2);
    values = λ l h. ap (λ (c : Cell). c.value) (still_cell σ k t l e) ∙ core_value held l h ∙ ap (λ (j : List ℕ). get_or j l 0) (sym em);
    sources = λ l h. ap (λ (c : Cell). latest c.writes) (still_cell σ k t l e) ∙ core_source held l h ∙ ap (λ (j : List LastWrite). event_of (get_or j l unwritten)) (sym el);
  }

  -- v was put at l
  module _ (l v i : ℕ) (here : l ≡ place σ k t) (near : l < 8) (e : putting σ k t ≡ some v) (ei : i ≡ number_of k (thread_of σ t))
      (em : n.memory ≡ set m.memory l v) (el : n.last ≡ set m.last l (record { thread = t; number = i })) where
    in_cells : place σ k t < length σ.cells
    in_cells = omega (arith, here, near, core_eight held)

    put_value : (j : ℕ) → j < 8 → Dec (j ≡ l) → (cell_of (step_of σ k t) j).value ≡ get_or n.memory j 0
    put_value j h (yes q) =
        (wrote_own σ k t j v in_cells (q ∙ here) e).1
        ∙ sym (ap (λ (g : List ℕ). get_or g j 0) em ∙ ap (λ (x : ℕ). get_or (set m.memory l v) x 0) q ∙ get_or-set_same m.memory l v 0 (omega (arith, held.core.sizes.1)))
    put_value j h (no q) =
        ap (λ (c : Cell). c.value) (cell_other σ k t j (λ z. q (z ∙ sym here))) ∙ core_value held j h
        ∙ sym (ap (λ (g : List ℕ). get_or g j 0) em ∙ get_or-set_other m.memory l j v 0 q)

    abbrev new : LastWrite
    new = record { thread = t; number = i }

    put_source : (j : ℕ) → j < 8 → Dec (j ≡ l) → latest (cell_of (step_of σ k t) j).writes ≡ event_of (last_at (core_of n) j)
    unfolding latest
    put_source j h (yes q) =
        ap latest (wrote_own σ k t j v in_cells (q ∙ here) e).0 ∙ ap (λ (x : ℕ). (t, x)) (sym ei)
        ∙ sym (ap event_of (ap (λ (g : List LastWrite). get_or g j unwritten) el ∙ ap (λ (x : ℕ). get_or (set m.last l new) x unwritten) q ∙ get_or-set_same m.last l new unwritten (omega (arith, held.core.sizes.2))))
    put_source j h (no q) =
        ap (λ (c : Cell). latest c.writes) (cell_other σ k t j (λ z. q (z ∙ sym here))) ∙ core_source held j h
        ∙ sym (ap event_of (ap (λ (g : List LastWrite). get_or g j unwritten) el ∙ get_or-set_other m.last l j new unwritten q))

    pub cells_put : Cells n (step_of σ k t)
    cells_put = record {
      sizes = (ap length em ∙ length-set m.memory l v ∙ held.core.sizes.1, ap length el ∙ length-set m.last l new ∙ held.core.sizes.2);
      values = λ j h. put_value j h (ℕ_discrete j l);
      sources = λ j h. put_source j h (ℕ_discrete j l);
    }
