-- T4, from left to right: a consistent graph is the graph of a full schedule. While some event is not done, one of those that are not done
-- has none of them before it: it is its thread's next, and the machine does it as the graph says.
use Prim.Native.Nat.{ℕ, zero, suc, ◌<◌}
use mathlib.Core.Path.{◌≡◌, refl, sym, ap, subst, ◌∙◌}
use mathlib.Core.Logic.{⊎_elim}
use mathlib.Core.Bool.{Bool, true, false, not, ◌&&◌}
use mathlib.Core.List.Memᴰ
use mathlib.Core.List.{List, [], ◌∷◌, ◌++◌, map, Memᴰ}
use native.Mathlib.Omega.{arith}
use native.Mathlib.Decide.{dec_lt}
use borrow.Author.Tests.{ltb-true, ltb-false, not-true}
use lib.Dec.{ltb}
use lib.ListN.{length}
use Rattle.spec_file.specs.Program.{Program}
use Rattle.spec_file.specs.WellFormed.{WellFormed, accesses}
use Rattle.spec_file.proofs.DigitValues.{both}
use Rattle.spec_schedules.specs.Lists.{range, filter}
use Rattle.spec_schedules.specs.Order.{Schedule}
use Rattle.spec_schedules.specs.System.{run, ended, FullFrom}
use Rattle.spec_schedules.proofs.Lists.{in_range_lem, in_filter, of_filter}
use Rattle.spec_schedules.proofs.Runs.{ended_of}
use Rattle.spec_sc.specs.Local.{pending}
use Rattle.spec_sc.specs.State.{Event, State, thread_of, cell_of, step, enabled, size, SC, start}
use Rattle.spec_sc.specs.Graph.{Graph, graph_of, graph}
use Rattle.spec_sc.proofs.Access.{next_fewer, nothing_pending}
use Rattle.spec_sc.proofs.Ended.{ended_all}
use Rattle.spec_sc.proofs.Steps.{enabled_pending, enabled_of}
use Rattle.spec_sc.proofs.Lawful.{falls}
use Rattle.spec_sc.proofs.Regular.{Regular}
use Rattle.spec_sc.proofs.Histories.{upcoming, Done, upcoming_undone}
use Rattle.spec_sc.proofs.Rows.{same_graph}
use Rattle.spec_judge.specs.Consistent.{row_of, order_of, Values, alone, local_at, Makes, Canonical, Before, program_order, Acyclic, Consistent}
use Rattle.spec_judge.specs.Least.{MadeBy}
use Rattle.spec_sc.proofs.Same.{both_and, not_of}
use Rattle.spec_judge.proofs.Parts.{finished}
use Rattle.spec_judge.proofs.Alone.{Event-of, before_end, accesses_left, event_thread}
use Rattle.spec_judge.proofs.Minimal.{First, minimal}
use Rattle.spec_judge.proofs.Decided.{decided}
use Rattle.spec_judge.proofs.InOrder.{order_event, row_event, before_event, Follows, follows_start, Ready, Closed, closed_start, follows_step, closed_step}

-- in the end no thread is before an access
pub ended_idle : (σ : State) → Regular σ → ended SC σ ≡ true → (t : ℕ) → pending (thread_of σ t).local ≡ false
ended_idle σ r e t = nothing_pending (thread_of σ t).local (ended_all σ r e t)

-- the pairs of these threads, thread t with f t accesses
pairs : (ℕ → ℕ) → List ℕ → List Event
pairs f [] = []
pairs f (t ∷ ts) = map (λ (i : ℕ). let e : Event = (t, i) in e) (range 0 (f t)) ++ pairs f ts

in_pairs : (f : ℕ → ℕ) (ts : List ℕ) (t i : ℕ) → Memᴰ t ts → i < f t → Memᴰ (t, i) (pairs f ts)
unfolding pairs
in_pairs f [] t i m h = absurd (Memᴰ.not-nil m)
in_pairs f (u ∷ ts) t i m h = ⊎_elim
    (λ (q : t ≡ u). Memᴰ.append_left {s = map (λ (j : ℕ). let e : Event = (u, j) in e) (range 0 (f u))} (pairs f ts)
    (subst (λ (k : ℕ). Memᴰ (t, i) (map (λ (j : ℕ). let e : Event = (k, j) in e) (range 0 (f k)))) q
    (Memᴰ.map (λ (j : ℕ). let e : Event = (t, j) in e) (in_range_lem 0 (f t) i (omega arith) (omega arith)))))
    (λ (k : Memᴰ t ts). Memᴰ.append_right (map (λ (j : ℕ). let e : Event = (u, j) in e) (range 0 (f u))) (in_pairs f ts t i k h)) (Memᴰ.cases_cons m)

module _ (p : Program) (wf : WellFormed p) (g : Graph) (v : Values) (C : Canonical p g) (M : Makes p g v) (acyclic : Acyclic (Before p g v)) where
  events : List Event
  events = pairs (λ t. accesses (alone p v t 0).rest) (range 0 (length p.threads))

  in_events : (e : Event) → Event-of p v e → Memᴰ e events
  unfolding events
  in_events e h = in_pairs (λ t. accesses (alone p v t 0).rest) (range 0 (length p.threads)) e.0 e.1
      (in_range_lem 0 (length p.threads) e.0 (omega arith) (omega (arith, event_thread p v e h)))
      (omega (arith, accesses_left p v e.0 e.1 h, next_fewer (local_at p v e) 0 h))

  -- an event that is not done
  abbrev ahead : State → Event → Bool
  ahead σ e = pending (local_at p v e) && not (ltb e.1 (thread_of σ e.0).history.done)

  is_ahead : (σ : State) (e : Event) → Event-of p v e → (Done σ e → ⊥) → ahead σ e ≡ true
  is_ahead σ e h n = both_and h (not_of (ltb e.1 (thread_of σ e.0).history.done) (λ k. n (ltb-true e.1 (thread_of σ e.0).history.done k)))

  ahead_is : (σ : State) (e : Event) → ahead σ e ≡ true → Event-of p v e × (Done σ e → ⊥)
  ahead_is σ e k =
      let r = both (pending (local_at p v e)) (not (ltb e.1 (thread_of σ e.0).history.done)) k in
      (r.0, λ d. absurd (omega (arith, ltb-false e.1 (thread_of σ e.0).history.done (not-true (ltb e.1 (thread_of σ e.0).history.done) r.1))))

  undone : State → List Event
  undone σ = filter (ahead σ) events

  undone_in : (σ : State) (e : Event) → Event-of p v e → (Done σ e → ⊥) → Memᴰ e (undone σ)
  unfolding undone
  undone_in σ e h n = in_filter (ahead σ) events e (in_events e h) (is_ahead σ e h n)

  -- all events are done: the threads have ended, and the graph is this one
  all_ended : (σ : State) → Follows p wf g v C M σ → undone σ ≡ [] → ended SC σ ≡ true
  all_ended σ F q = ended_of SC σ (λ t. go t (enabled σ t) refl)
    where
      go : (t : ℕ) (b : Bool) → enabled σ t ≡ b → enabled σ t ≡ false
      go t false e = e
      go t true e = absurd (Memᴰ.not-nil
          (subst (Memᴰ (upcoming σ t)) q (undone_in σ (upcoming σ t) (ap pending (sym (F.agrees.locals t)) ∙ enabled_pending σ t e) (upcoming_undone σ t))))

  at_end : (σ : State) → Follows p wf g v C M σ → ended SC σ ≡ true → graph_of σ ≡ g
  at_end σ F e = same_graph σ g (F.agrees.threads ∙ sym C.rows) (F.agrees.regular.eight ∙ sym C.lists)
      (λ t. finished _ (thread_of σ t).history.reads (row_of g t) (F.rows t) (λ r m. all_done (t, r.0) (row_event p wf g v C M (t, r.0) r.1 m)))
      (λ l. finished _ (cell_of σ l).writes (order_of g l) (F.orders l) (λ x m. all_done x (order_event p wf g v C M l x m)))
    where
      all_done : (x : Event) → Event-of p v x → Done σ x
      all_done x h = before_end p v x.0 (thread_of σ x.0).history.done x.1 (ap pending (sym (F.agrees.locals x.0)) ∙ ended_idle σ F.agrees.regular e x.0) h

  -- a minimal event among those not done is its thread's next
  module _ (σ : State) (F : Follows p wf g v C M σ) (x : Event) (k : Memᴰ x (undone σ)) (first : First (Before p g v) x (undone σ)) where
    fact : Event-of p v x × (Done σ x → ⊥)
    unfolding undone
    fact = ahead_is σ x (of_filter (ahead σ) events x k).1

    before_done : (y : Event) → Before p g v y x → Done σ y
    before_done y b = go (dec_lt y.1 (thread_of σ y.0).history.done)
      where
        go : Dec (Done σ y) → Done σ y
        go (yes d) = d
        go (no n) = absurd (first y (undone_in σ y (before_event p wf g v C M y x b fact.0) n) b)

    is_next : x ≡ upcoming σ x.0
    is_next = ap (λ (i : ℕ). let e : Event = (x.0, i) in e) (go (dec_lt (thread_of σ x.0).history.done x.1))
      where
        go : Dec ((thread_of σ x.0).history.done < x.1) → x.1 ≡ (thread_of σ x.0).history.done
        go (yes h) = absurd (upcoming_undone σ x.0 (before_done (upcoming σ x.0) (program_order refl h)))
        go (no h) = let n : ¬ (x.1 < (thread_of σ x.0).history.done) = fact.1 in omega arith

    next_enabled : enabled σ x.0 ≡ true
    next_enabled = enabled_of σ x.0 (omega (arith, event_thread p v x fact.0, wf.six))
        (ap pending (F.agrees.locals x.0) ∙ subst (Event-of p v) is_next fact.0)

    next_ready : Ready p wf g v C M σ (upcoming σ x.0)
    next_ready y b = before_done y (subst (λ (z : Event). Before p g v y z) (sym is_next) b)

  found : (n : ℕ) (σ : State) → size σ < n → Follows p wf g v C M σ → Closed p wf g v C M σ → (s : Schedule) × FullFrom SC σ s × (graph_of (run SC σ s) ≡ g)
  unfolding run
  found zero σ h F c = absurd (omega arith)
  found (suc n) σ h F c = go (undone σ) refl (λ τ. found n τ)
    where
      go : (l : List Event) → undone σ ≡ l →
          ((τ : State) → size τ < n → Follows p wf g v C M τ → Closed p wf g v C M τ →
          (s : Schedule) × FullFrom SC τ s × (graph_of (run SC τ s) ≡ g)) → (s : Schedule) × FullFrom SC σ s × (graph_of (run SC σ s) ≡ g)
      go [] q ih = let e = all_ended σ F q in ([], e, at_end σ F e)
      go (x ∷ xs) q ih =
          let r = minimal (Before p g v) (decided p g v) acyclic (undone σ) x (subst (Memᴰ x) (sym q) (Memᴰ.head refl)) in
          let t = r.0.0 in
          let m = next_enabled σ F r.0 r.1 r.2 in
          let y = next_ready σ F r.0 r.1 r.2 in
          let z = ih (step σ t) (omega (arith, falls σ t m)) (follows_step p wf g v C M σ F c t m y) (closed_step p wf g v C M σ F c t m y) in
          (t ∷ z.0, (m, z.1), z.2)

pub consistent_scheduled : (p : Program) → WellFormed p → (g : Graph) → Consistent p g → (s : Schedule) × MadeBy p g s
consistent_scheduled p wf g c =
    let C = c.canonical in
    let M = c.makes in
    let r = found p wf g c.value C M c.acyclic (suc (size (start p))) (start p) (omega arith) (follows_start p wf g c.value C M) (closed_start p wf g c.value C M) in
    (r.0, (r.1, r.2))
