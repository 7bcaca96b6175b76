-- Doing the graph's events in order: a state that has done a part of the graph, and a step before which everything is done that stands before
-- its event, finds the values and the sources that the graph gives, and has done a part of the graph again.
use Prim.Native.Nat.{ℕ}
use mathlib.Core.Path.{◌≡◌, refl, sym, ap, subst, ◌∙◌}
use mathlib.Core.Logic.{◌≢◌, ◌⊎◌, inl, inr, ⊎_elim}
use mathlib.Core.Bool.{Bool, true, false, true≢false}
use mathlib.Core.Option.{Option, none, some}
use mathlib.Core.List.{List, append-nil, Memᴰ}
use native.Mathlib.Omega.{arith}
use lib.ListN.{length, get_or}
use Rattle.spec_file.specs.Program.{Program, initial}
use Rattle.spec_file.specs.WellFormed.{WellFormed}
use Rattle.spec_sc.specs.Local.{takes}
use Rattle.spec_sc.specs.State.{Event, initial_write, Cell, State, thread_of, cell_of, place, latest, noted, advanced, step, enabled, start}
use Rattle.spec_sc.specs.Graph.{Graph}
use Rattle.spec_sc.proofs.Steps.{enabled_range}
use Rattle.spec_sc.proofs.Change.{thread_cases, done_own, Change, kept, wrote, wrote_own}
use Rattle.spec_sc.proofs.Start.{start_writes, start_history}
use Rattle.spec_sc.proofs.Regular.{changes, place_in}
use Rattle.spec_sc.proofs.Histories.{upcoming, Done, upcoming_undone, done_more, done_new, done_cases}
use Rattle.spec_judge.specs.Consistent.{row_of, order_of, ReadsFrom, Later, Values, Reads, location_of, out_of, WritesAt, Leaves, Makes, Canonical, Before, program_order, reads_from, coherence, from_reads}
use Rattle.spec_judge.proofs.Later.{later_in, distinct_later, descends_later}
use Rattle.spec_judge.proofs.Parts.{Parts, parts_stay, parts_next, latest_is}
use Rattle.spec_judge.proofs.Alone.{Event-of, reads_event, writes_event, some_writes, earlier_event, event_real}
use Rattle.spec_judge.proofs.Agreement.{Agrees, agrees_start, agrees_step, location, reads_as, writes_as}

module _ (p : Program) (wf : WellFormed p) (v : Values) where
  -- a write leaves one value
  pub leaves_one : (s : Event) (l x y : ℕ) → Leaves p v s l x → Leaves p v s l y → x ≡ y
  leaves_one s l x y (inl a) (inl b) = a.1 ∙ sym b.1
  leaves_one s l x y (inl a) (inr b) = absurd (event_real p v wf s (writes_event p v s (some_writes p v s y b.1)) a.0)
  leaves_one s l x y (inr a) (inl b) = absurd (event_real p v wf s (writes_event p v s (some_writes p v s x a.1)) b.0)
  leaves_one s l x y (inr a) (inr b) = let q : some x ≡ some y = sym a.1 ∙ b.1 in cc

module _ (p : Program) (wf : WellFormed p) (g : Graph) (v : Values) (C : Canonical p g) (M : Makes p g v) where
  pub order_event : (l : ℕ) (e : Event) → Memᴰ e (order_of g l) → Event-of p v e
  order_event l e m = writes_event p v e ((M.writes l e).0 m).1

  pub row_event : (e s : Event) → ReadsFrom g e s → Event-of p v e
  row_event e s r = reads_event p v e (M.noted e s r)

  -- a source is the initial write, or a write of the location that is read
  pub source_cases : (e s : Event) → ReadsFrom g e s → (s ≡ initial_write) ⊎ (Memᴰ s (order_of g (location_of p v e)) × (s ≢ initial_write))
  source_cases e s r = ⊎_elim (λ (h : (s ≡ initial_write) × (v e ≡ get_or (initial p) (location_of p v e) 0)). inl h.0)
      (λ (h : (location_of p v s ≡ location_of p v e) × (out_of p v s ≡ some (v e))).
      let n = some_writes p v s (v e) h.1 in
      inr ((M.writes (location_of p v e) s).1 (h.0, n), event_real p v wf s (writes_event p v s n))) (M.found e s r)

  -- what stands before an event is an event
  pub before_event : (x y : Event) → Before p g v x y → Event-of p v y → Event-of p v x
  before_event x y (program_order q h) f = earlier_event p v x.0 x.1 y.1 (omega arith) (subst (λ (t : ℕ). Event-of p v (t, y.1)) (sym q) f)
  before_event x y (reads_from r n) f = ⊎_elim (λ (q : x ≡ initial_write). absurd (n q))
      (λ (h : Memᴰ x (order_of g (location_of p v y)) × (x ≢ initial_write)). order_event (location_of p v y) x h.0) (source_cases y x r)
  before_event x y (coherence l h) f = order_event l x (later_in (order_of g l) y x h).1
  before_event x y (from_reads s r h n) f = row_event x s r

  -- the state has done a part of the graph
  pub record Follows (σ : State) : Type 0 where
    pub agrees : Agrees p v σ
    pub rows : (t : ℕ) → Parts (λ r. Done σ (t, r.0)) (thread_of σ t).history.reads (row_of g t)
    pub orders : (l : ℕ) → Parts (Done σ) (cell_of σ l).writes (order_of g l)

  none_done : (t i : ℕ) → Done (start p) (t, i) → ⊥
  none_done t i d = absurd (omega (arith, (start_history p t).0))

  pub follows_start : Follows (start p)
  follows_start = record {
    agrees = agrees_start p v wf;
    rows = λ t. rw (start_history p t).1
        (record { front = row_of g t; whole = sym (append-nil (row_of g t)); undone = λ r m d. none_done t r.0 d; done = λ r m. absurd (mathlib.Core.List.Memᴰ.not-nil m) });
    orders = λ l. rw (start_writes p l)
        (record { front = order_of g l; whole = sym (append-nil (order_of g l)); undone = λ e m d. none_done e.0 e.1 d; done = λ e m. absurd (mathlib.Core.List.Memᴰ.not-nil m) });
  }

  -- everything before y is done; everything before what is done is done
  abbrev pub Ready : State → Event → Type 0
  Ready σ y = (x : Event) → Before p g v x y → Done σ x

  abbrev pub Closed : State → Type 0
  Closed σ = (x y : Event) → Before p g v x y → Done σ y → Done σ x

  pub closed_start : Closed (start p)
  closed_start x y b d = absurd (none_done y.0 y.1 d)

  module _ (σ : State) (F : Follows σ) (cl : Closed σ) (t : ℕ) (m : enabled σ t ≡ true) (ready : Ready σ (upcoming σ t)) where
    abbrev e : Event
    e = upcoming σ t

    abbrev here : Cell
    here = cell_of σ (place σ t)

    other : (y : Event) → Done σ y → e ≢ y
    other y d q = upcoming_undone σ t (subst (Done σ) (sym q) d)

    -- the last write is the source that the graph gives
    source_latest : (s : Event) → ReadsFrom g e s → latest here.writes ≡ s
    source_latest s r = ap (λ (l : ℕ). latest (cell_of σ l).writes) (sym (location p v σ F.agrees t)) ∙
        latest_is (Done σ) (cell_of σ (location_of p v e)).writes (order_of g (location_of p v e)) (F.orders (location_of p v e)) s
        (⊎_elim (λ (q : s ≡ initial_write). inl q)
        (λ (h : Memᴰ s (order_of g (location_of p v e)) × (s ≢ initial_write)). inr (h.0, ready s (reads_from r h.1))) (source_cases e s r))
        (λ y d f. upcoming_undone σ t (cl e y (from_reads s r f (other y d)) d))

    pub finds : Reads p v e → v e ≡ here.value
    finds k =
        let s = M.sourced e k in
        leaves_one p wf v s.0 (place σ t) (v e) here.value
        (subst (λ (l : ℕ). Leaves p v s.0 l (v e)) (location p v σ F.agrees t) (M.found e s.0 s.1))
        (subst (λ (x : Event). Leaves p v x (place σ t) here.value) (source_latest s.0 s.1) (F.agrees.values (place σ t)))

    abbrev Row : ℕ → List (ℕ × Event) → Type 0
    Row u rs = Parts (λ r. Done (step σ t) (u, r.0)) rs (row_of g u)

    row_other : (u : ℕ) → u ≢ t → Row u (thread_of σ u).history.reads
    row_other u ne = parts_stay (λ r. Done σ (u, r.0)) (thread_of σ u).history.reads (row_of g u) (F.rows u) (λ r. Done (step σ t) (u, r.0)) (λ r d. done_more σ t m (u, r.0) d)
        (λ r k d. ⊎_elim (λ (h : Done σ (u, r.0)). h) (λ (h : ◌≡◌ {A = Event} (u, r.0) e). absurd (ne (ap (λ (x : Event). x.0) h))) (done_cases σ t m (u, r.0) d))

    row_own : (b : Bool) → takes (thread_of σ t).local ≡ b → Row t (noted b (latest here.writes) (thread_of σ t).history).reads
    unfolding noted
    row_own false k = parts_stay (λ r. Done σ (t, r.0)) (thread_of σ t).history.reads (row_of g t) (F.rows t) (λ r. Done (step σ t) (t, r.0))
        (λ r d. done_more σ t m (t, r.0) d)
        (λ r j d. ⊎_elim (λ (h : Done σ (t, r.0)). h)
        (λ (h : ◌≡◌ {A = Event} (t, r.0) e).
        let i : ReadsFrom g e r.1 = subst (λ (n : ℕ). Memᴰ (n, r.1) (row_of g t)) (ap (λ (x : Event). x.1) h) j in
        absurd (true≢false (sym (M.noted e r.1 i) ∙ sym (reads_as p v σ F.agrees t) ∙ k))) (done_cases σ t m (t, r.0) d))
    row_own true k =
        let s = M.sourced e (sym (reads_as p v σ F.agrees t) ∙ k) in
        let n = (thread_of σ t).history.done in
        let y : ℕ × Event = (n, latest here.writes) in
        let i : Memᴰ y (row_of g t) = subst (λ (x : Event). Memᴰ (n, x) (row_of g t)) (sym (source_latest s.0 s.1)) s.1 in
        parts_next (λ r. Done σ (t, r.0)) (thread_of σ t).history.reads (row_of g t) (F.rows t) (λ r. Done (step σ t) (t, r.0)) (λ r d. done_more σ t m (t, r.0) d) y i
        (λ d. upcoming_undone σ t d) (λ x f. descends_later (row_of g t) y x (C.ordered t) f) (done_new σ t m)
        (λ x f d. absurd (omega (arith, descends_later (row_of g t) x y (C.ordered t) f, done_own σ t (enabled_range σ t m))))

    abbrev Order : ℕ → List Event → Type 0
    Order l ws = Parts (Done (step σ t)) ws (order_of g l)

    -- a location that stays as it is does not have the event among its writes
    not_written : (l : ℕ) → cell_of (step σ t) l ≡ cell_of σ l → Memᴰ e (order_of g l) → ⊥
    not_written l q k = go (out_of p v e) refl
      where
        W : WritesAt p v e l
        W = (M.writes l e).0 k

        go : (o : Option ℕ) → out_of p v e ≡ o → ⊥
        go none i = W.1 i
        go (some x) i =
            let r = (wrote_own σ t l x (place_in σ F.agrees.regular t) (sym W.0 ∙ location p v σ F.agrees t) (writes_as p v σ F.agrees t m finds ∙ i)).0 in
            absurd (omega (arith, ap (λ (c : Cell). length c.writes) (sym q) ∙ ap (λ (ws : List Event). length ws) r))

    order_after : (l : ℕ) → Change σ t l → Order l (cell_of (step σ t) l).writes
    order_after l (kept q) = subst (λ (c : Cell). Order l c.writes) (sym q)
        (parts_stay (Done σ) (cell_of σ l).writes (order_of g l) (F.orders l) (Done (step σ t)) (done_more σ t m)
        (λ x k d. ⊎_elim (λ (h : Done σ x). h) (λ (h : x ≡ e). absurd (not_written l q (subst (λ (y : Event). Memᴰ y (order_of g l)) h k))) (done_cases σ t m x d)))
    order_after l (wrote q x i w y) = subst (Order l) (sym w)
        (parts_next (Done σ) (cell_of σ l).writes (order_of g l) (F.orders l) (Done (step σ t)) (done_more σ t m) e
        ((M.writes l e).1 (location p v σ F.agrees t ∙ sym q, some_writes p v e x (sym (writes_as p v σ F.agrees t m finds) ∙ i)))
        (upcoming_undone σ t) (λ x f. ready x (coherence l f)) (done_new σ t m)
        (λ x f d. ⊎_elim (λ (h : Done σ x). upcoming_undone σ t (cl e x (coherence l f) h))
        (λ (h : x ≡ e). distinct_later (order_of g l) e (C.once l) (subst (λ (y : Event). Later (order_of g l) y e) h f)) (done_cases σ t m x d)))

    pub follows_step : Follows (step σ t)
    unfolding advanced
    follows_step = record {
      agrees = agrees_step p v σ F.agrees t m finds;
      rows = λ u. thread_cases (λ k h. Row k h.history.reads) σ t (enabled_range σ t m) (row_own (takes (thread_of σ t).local) refl) u (λ ne. row_other u ne);
      orders = λ l. order_after l (changes σ F.agrees.regular t l);
    }

    pub closed_step : Closed (step σ t)
    closed_step x y b d = ⊎_elim (λ (h : Done σ y). done_more σ t m x (cl x y b h))
        (λ (h : y ≡ e). done_more σ t m x (ready x (subst (λ (z : Event). Before p g v x z) h b))) (done_cases σ t m y d)
