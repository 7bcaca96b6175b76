-- The rounds find the values of every run with this graph: after k steps all rounds from the k-th on agree with the machine.
use Prim.Native.Nat.{ℕ, zero, suc, ◌+◌, ◌<◌, ◌≤◌}
use mathlib.Core.Path.{◌≡◌, refl, sym, ap, subst, ◌∙◌}
use mathlib.Core.Logic.{◌⊎◌, inl, inr}
use mathlib.Core.Bool.{Bool, true, false, false≢true}
use mathlib.Core.List.Memᴰ
use mathlib.Core.List.{List, [], ◌∷◌, Memᴰ}
use native.Mathlib.Omega.{arith}
use borrow.Author.Tests.{eqb-true, eq-eqb}
use lib.Dec.{eqb}
use lib.ListN.{length}
use Rattle.spec_file.specs.Program.{Program}
use Rattle.spec_file.specs.WellFormed.{WellFormed}
use Rattle.spec_schedules.specs.Order.{Schedule}
use Rattle.spec_schedules.specs.System.{run, FullFrom}
use Rattle.spec_schedules.proofs.Runs.{full_allowed}
use Rattle.spec_sc.specs.Local.{takes}
use Rattle.spec_sc.specs.State.{Event, initial_write, State, thread_of, cell_of, place, latest, step, SC, start}
use Rattle.spec_sc.specs.Graph.{Graph, graph_of, graph}
use Rattle.spec_sc.proofs.Suffix.{Suffix}
use Rattle.spec_sc.proofs.Regular.{Regular, regular_step, regular_start}
use Rattle.spec_sc.proofs.Steps.{run_threads, run_cells}
use Rattle.spec_sc.proofs.Start.{start_threads, start_cells}
use Rattle.spec_sc.proofs.Histories.{upcoming, run_row, run_order}
use Rattle.spec_sc.proofs.Rows.{row_at, order_at, graph_sizes}
use Rattle.spec_judge.specs.Consistent.{row_of, order_of, ReadsFrom, Values, Reads, location_of, Leaves, Descends, Canonical}
use Rattle.spec_schedules.specs.Lists.{Distinct}
use Rattle.spec_sc.specs.Same.{same_event}
use Rattle.spec_judge.specs.Least.{MadeBy}
use Rattle.spec_judge.proofs.RoundValues.{source_in, or_zero, left_by, next_round, values}
use Rattle.spec_sc.proofs.Same.{same_event_is, is_same_event}
use Rattle.spec_judge.proofs.Alone.{writes_event, some_writes, event_real}
use Rattle.spec_judge.proofs.Agreement.{location, reads_as}
use Rattle.spec_judge.proofs.Sorted.{sorted_start, sorted_run}
use Rattle.spec_judge.proofs.Records.{Records, read_noted, records_start, records_step}

-- the line of a read is found
pub source_in_lem : (rs : List (ℕ × Event)) (i : ℕ) (s : Event) → Descends rs → Memᴰ (i, s) rs → source_in rs i ≡ s
unfolding source_in
source_in_lem [] i s d m = absurd (Memᴰ.not-nil m)
source_in_lem (r ∷ rs) i s d m = go (eqb r.0 i) refl (Memᴰ.cases_cons m) (λ k. source_in_lem rs i s d.1 k)
  where
    go : (b : Bool) → eqb r.0 i ≡ b → (◌≡◌ {A = ℕ × Event} (i, s) r) ⊎ Memᴰ (i, s) rs → (Memᴰ (i, s) rs → source_in rs i ≡ s) → source_in (r ∷ rs) i ≡ s
    go true q (inl k) ih = rw (q, source_in) (ap (λ (x : ℕ × Event). x.1) (sym k))
    go true q (inr k) ih = absurd (omega (arith, d.0 (i, s) k, eqb-true r.0 i q))
    go false q (inl k) ih = absurd (false≢true (sym q ∙ eq-eqb r.0 i (ap (λ (x : ℕ × Event). x.0) (sym k))))
    go false q (inr k) ih = rw (q, source_in) (ih k)

-- each read has one source
pub source_one : (g : Graph) (e s r : Event) → Descends (row_of g e.0) → ReadsFrom g e s → ReadsFrom g e r → s ≡ r
source_one g e s r d a b = sym (source_in_lem (row_of g e.0) e.1 s d a) ∙ source_in_lem (row_of g e.0) e.1 r d b

module _ (p : Program) (wf : WellFormed p) where
  left_is : (v : Values) (s : Event) (l x : ℕ) → Leaves p v s l x → left_by p v s l ≡ x
  unfolding left_by or_zero
  left_is v s l x (inl h) = rw (is_same_event s initial_write h.0, left_by) (sym h.1)
  left_is v s l x (inr h) = go (same_event s initial_write) refl
    where
      go : (b : Bool) → same_event s initial_write ≡ b → left_by p v s l ≡ x
      go true q = absurd (event_real p v wf s (writes_event p v s (some_writes p v s x h.1)) (same_event_is s initial_write q))
      go false q = rw (q, left_by, h.1)

  module _ (g : Graph) where
    -- a state from which this schedule is full and ends with the graph
    pub record Ends (σ : State) (z : Schedule) : Type 0 where
      pub regular : Regular σ
      pub full : FullFrom SC σ z
      pub graph : graph_of (run SC σ z) ≡ g

    pub ends_step : (σ : State) (t : ℕ) (z : Schedule) → Ends σ (t ∷ z) → Ends (step σ t) z
    unfolding run
    ends_step σ t z E = record { regular = regular_step σ t E.regular E.full.0; full = E.full.1; graph = E.graph }

    pub ends_start : (s : Schedule) → MadeBy p g s → Ends (start p) s
    ends_start s m = record { regular = regular_start p wf; full = m.0; graph = m.1 }

    pub row_suffix : (σ : State) (z : Schedule) → Ends σ z → (t : ℕ) → Suffix (thread_of σ t).history.reads (row_of g t)
    row_suffix σ z E t =
        let q = sym (ap (λ (h : Graph). row_of h t) E.graph) ∙ row_at (run SC σ z) t in
        let r = run_row z σ (full_allowed SC σ z E.full).0 t in
        (r.0, q ∙ r.1)

    pub order_suffix : (σ : State) (z : Schedule) → Ends σ z → (l : ℕ) → Suffix (cell_of σ l).writes (order_of g l)
    order_suffix σ z E l =
        let q = sym (ap (λ (h : Graph). order_of h l) E.graph) ∙ order_at (run SC σ z) l in
        let r = run_order z σ E.regular (full_allowed SC σ z E.full).0 l in
        (r.0, q ∙ r.1)

    -- the graph of a run is canonical
    pub run_canonical : (s : Schedule) → MadeBy p g s → Canonical p g
    run_canonical s m =
        let E = ends_start s m in
        let T = sorted_run s (start p) E.regular (full_allowed SC (start p) s E.full).0 (sorted_start p) in
        record {
          rows = ap (λ (h : Graph). length h.reads) (sym E.graph) ∙ (graph_sizes (run SC (start p) s)).0 ∙ run_threads s (start p) ∙ start_threads p;
          lists = ap (λ (h : Graph). length h.writes) (sym E.graph) ∙ (graph_sizes (run SC (start p) s)).1 ∙ run_cells s (start p) ∙ start_cells p wf;
          ordered = λ t. subst Descends (sym (row_at (run SC (start p) s) t) ∙ ap (λ (h : Graph). row_of h t) E.graph) (T.ordered t);
          once = λ l. subst Distinct (sym (order_at (run SC (start p) s) l) ∙ ap (λ (h : Graph). order_of h l) E.graph) (T.once l);
        }

    -- a step that reads takes from the source that the graph gives
    pub step_source : (σ : State) (t : ℕ) (z : Schedule) → Ends σ (t ∷ z) → takes (thread_of σ t).local ≡ true → ReadsFrom g (upcoming σ t) (latest (cell_of σ (place σ t)).writes)
    step_source σ t z E k =
        let r = row_suffix (step σ t) z (ends_step σ t z E) t in
        subst (Memᴰ ((thread_of σ t).history.done, latest (cell_of σ (place σ t)).writes)) (sym r.1) (Memᴰ.append_right r.0 (read_noted σ t E.full.0 k))

    -- after k steps the rounds from the k-th on agree with the machine
    abbrev pub Known : ℕ → State → Type 0
    Known k σ = (n : ℕ) → k ≤ n → Records p (values p g n) σ

    module _ (C : Canonical p g) where
      next_round_lem : (n k : ℕ) (σ : State) (t : ℕ) (z : Schedule) → Ends σ (t ∷ z) → Known k σ → k < n → takes (thread_of σ t).local ≡ true →
          values p g n (upcoming σ t) ≡ (cell_of σ (place σ t)).value
      unfolding values next_round
      next_round_lem zero k σ t z E K h e = absurd (omega arith)
      next_round_lem (suc n) k σ t z E K h e =
          let R = K n (omega arith) in
          let s = source_in_lem (row_of g t) (thread_of σ t).history.done (latest (cell_of σ (place σ t)).writes) (C.ordered t) (step_source σ t z E e) in
          rw s (left_is (values p g n) (latest (cell_of σ (place σ t)).writes) (location_of p (values p g n) (upcoming σ t)) (cell_of σ (place σ t)).value
          (subst (λ (l : ℕ). Leaves p (values p g n) (latest (cell_of σ (place σ t)).writes) l (cell_of σ (place σ t)).value)
          (sym (location p (values p g n) σ R.agrees t)) (R.agrees.values (place σ t))))

      pub round_finds : (n k : ℕ) (σ : State) (t : ℕ) (z : Schedule) → Ends σ (t ∷ z) → Known k σ → k < n → Reads p (values p g n) (upcoming σ t) →
          values p g n (upcoming σ t) ≡ (cell_of σ (place σ t)).value
      round_finds n k σ t z E K h e = next_round_lem n k σ t z E K h (reads_as p (values p g n) σ (K n (omega arith)).agrees t ∙ e)

      pub known_step : (k : ℕ) (σ : State) (t : ℕ) (z : Schedule) → Ends σ (t ∷ z) → Known k σ → Known (suc k) (step σ t)
      known_step k σ t z E K n h = records_step p (values p g n) σ (K n (omega arith)) t E.full.0 (round_finds n k σ t z E K (omega arith))

      pub known_run : (z : Schedule) (k : ℕ) (σ : State) → Ends σ z → Known k σ → (n : ℕ) → k + length z ≤ n → Records p (values p g n) (run SC σ z)
      unfolding run
      known_run [] k σ E K n h = K n (omega arith)
      known_run (t ∷ z) k σ E K n h = known_run z (suc k) (step σ t) (ends_step σ t z E) (known_step k σ t z E K) n (omega arith)

    pub known_start : Known 0 (start p)
    known_start n h = records_start p (values p g n) wf
