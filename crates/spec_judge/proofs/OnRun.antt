-- The states of a run with this graph: the graph is made on the values of the rounds, and each step comes after everything that stands
-- before its event.
use Prim.Native.Nat.{ℕ, suc, ◌+◌, ◌≤◌}
use mathlib.Core.Path.{◌≡◌, refl, sym, ap, subst, ◌∙◌}
use mathlib.Core.Logic.{◌⊎◌, inl, inr, ⊎_elim}
use mathlib.Core.List.Memᴰ
use mathlib.Core.List.{[], ◌∷◌, Memᴰ}
use native.Mathlib.Omega.{arith}
use native.Mathlib.Decide.{dec_lt}
use lib.ListN.{length}
use Rattle.spec_file.specs.Program.{Program}
use Rattle.spec_file.specs.WellFormed.{WellFormed}
use Rattle.spec_schedules.specs.Order.{Schedule}
use Rattle.spec_schedules.specs.System.{run}
use Rattle.spec_sc.specs.Local.{pending}
use Rattle.spec_sc.specs.State.{Event, initial_write, State, thread_of, cell_of, place, latest, step, SC, start}
use Rattle.spec_sc.specs.Graph.{Graph}
use Rattle.spec_sc.proofs.Histories.{upcoming, Done, done_more, done_new, done_cases}
use Rattle.spec_sc.proofs.Rows.{row_at, order_at}
use Rattle.spec_judge.specs.Consistent.{row_of, order_of, coherence_of, ReadsFrom, Later, Values, Reads, location_of, Canonical, Makes, Before, program_order, reads_from, coherence, from_reads}
use Rattle.spec_schedules.specs.Lists.{Distinct}
use Rattle.spec_judge.specs.Least.{MadeBy}
use Rattle.spec_judge.proofs.RoundValues.{values}
use Rattle.spec_judge.proofs.Later.{distinct_later, distinct_apart, distinct_snoc}
use Rattle.spec_judge.proofs.Parts.{Parts, done_before, latest_in, none_later}
use Rattle.spec_judge.proofs.Alone.{Event-of, reads_event, writes_event, before_end, event_real}
use Rattle.spec_judge.proofs.Agreement.{location, reads_as}
use Rattle.spec_judge.proofs.InOrder.{order_event}
use Rattle.spec_judge.proofs.Scheduled.{ended_idle}
use Rattle.spec_judge.proofs.Records.{Records}
use Rattle.spec_judge.proofs.RoundWords.{round_words}
use Rattle.spec_judge.proofs.Rounds.{source_one, Ends, ends_step, ends_start, order_suffix, step_source, Known, round_finds, known_step, known_start}

module _ (p : Program) (wf : WellFormed p) (g : Graph) (C : Canonical p g) (N : ℕ) where
  abbrev v : Values
  v = values p g N

  -- a state of a run that has at most N steps and this graph
  pub record On (σ : State) (z : Schedule) : Type 0 where
    pub ends : Ends p wf g σ z
    pub steps : ℕ
    pub known : Known p wf g steps σ
    pub enough : steps + length z ≤ N

  pub on_start : (s : Schedule) → MadeBy p g s → length s ≤ N → On (start p) s
  on_start s m h = record { ends = ends_start p wf g s m; steps = 0; known = known_start p wf g; enough = omega arith }

  pub on_step : (σ : State) (t : ℕ) (z : Schedule) → On σ (t ∷ z) → On (step σ t) z
  on_step σ t z o = record {
    ends = ends_step p wf g σ t z o.ends;
    steps = suc o.steps;
    known = known_step p wf g C o.steps σ t z o.ends o.known;
    enough = omega (arith, o.enough);
  }

  pub on_end : (z : Schedule) (σ : State) → On σ z → On (run SC σ z) []
  unfolding run
  on_end [] σ o = o
  on_end (t ∷ z) σ o = on_end z (step σ t) (on_step σ t z o)

  pub records : (σ : State) (z : Schedule) → On σ z → Records p v σ
  records σ z o = o.known N (omega (arith, o.enough))

  pub on_finds : (σ : State) (t : ℕ) (z : Schedule) → On σ (t ∷ z) → Reads p v (upcoming σ t) → v (upcoming σ t) ≡ (cell_of σ (place σ t)).value
  on_finds σ t z o = round_finds p wf g C N o.steps σ t z o.ends o.known (omega (arith, o.enough))

  -- at the end all events are done
  pub all_done : (σ : State) → On σ [] → (e : Event) → Event-of p v e → Done σ e
  all_done σ o e h = before_end p v e.0 (thread_of σ e.0).history.done e.1
      (ap pending (sym ((records σ [] o).agrees.locals e.0)) ∙ ended_idle σ o.ends.regular o.ends.full e.0) h

  -- where an event goes is known one round before what it finds: a round fewer places the events of the run alike
  pub placed : (n : ℕ) → N ≤ suc n → (z : Schedule) (σ : State) → On σ z → (e : Event) → (Done σ e → location_of p (values p g n) e ≡ location_of p v e)
      → Done (run SC σ z) e → location_of p (values p g n) e ≡ location_of p v e
  unfolding run
  placed n h [] σ o e before d = before d
  placed n h (t ∷ z) σ o e before d = placed n h z (step σ t) (on_step σ t z o) e (λ k. now (done_cases σ t o.ends.full.0 e k)) d
    where
      now : Done σ e ⊎ (e ≡ upcoming σ t) → location_of p (values p g n) e ≡ location_of p v e
      now (inl k) = before k
      now (inr q) = subst (λ (x : Event). location_of p (values p g n) x ≡ location_of p v x) (sym q)
          (location p (values p g n) σ (o.known n (omega (arith, o.enough, h))).agrees t ∙ sym (location p v σ (records σ (t ∷ z) o).agrees t))

  -- the graph is made on the values of the run
  pub on_makes : (σ : State) → On σ [] → Makes p g v
  unfolding run
  on_makes σ o = record {
    words = λ e k. omega (arith, round_words p wf g N e);
    noted = λ e s k. (R.noted_read e.0 (e.1, s) (subst (Memᴰ (e.1, s)) (row e.0) k)).0;
    sourced = λ e k. let s = R.every_read e (all_done σ o e (reads_event p v e k)) k in (s.0, subst (Memᴰ (e.1, s.0)) (sym (row e.0)) s.1);
    writes = λ l e. (
      (λ k. R.noted_write l e (subst (Memᴰ e) (order l) k)),
      (λ k. subst (Memᴰ e) (sym (order l)) (R.every_write l e (all_done σ o e (writes_event p v e k.1)) k)),
    );
    found = λ e s k. (R.noted_read e.0 (e.1, s) (subst (Memᴰ (e.1, s)) (row e.0) k)).1;
  }
    where
      R : Records p v σ
      R = records σ [] o

      row : (t : ℕ) → row_of g t ≡ (thread_of σ t).history.reads
      row t = ap (λ (h : Graph). row_of h t) (sym o.ends.graph) ∙ row_at σ t

      order : (l : ℕ) → order_of g l ≡ (cell_of σ l).writes
      order l = ap (λ (h : Graph). order_of h l) (sym o.ends.graph) ∙ order_at σ l

  module _ (M : Makes p g v) where
    -- what is done of a location's writes is what the machine has noted
    pub on_parts : (σ : State) (z : Schedule) → On σ z → (l : ℕ) → Parts (Done σ) (cell_of σ l).writes (order_of g l)
    on_parts σ z o l =
        let q = order_suffix p wf g σ z o.ends l in
        record {
          front = q.0;
          whole = q.1;
          undone = λ x k d. distinct_apart q.0 (cell_of σ l).writes x (subst Distinct q.1 (C.once l)) k
              ((records σ z o).every_write l x d ((M.writes l x).0 (subst (Memᴰ x) (sym q.1) (Memᴰ.append_left {s = q.0} (cell_of σ l).writes k))));
          done = o.ends.regular.old l;
        }

    pub coherence_distinct : (l : ℕ) → Distinct (coherence_of g l)
    coherence_distinct l = distinct_snoc (order_of g l) initial_write (C.once l) (λ k. event_real p v wf initial_write (order_event p wf g v C M l initial_write k) refl)

    -- the source of a step's event is the last write that it finds
    pub on_source : (σ : State) (t : ℕ) (z : Schedule) → On σ (t ∷ z) → (s : Event) → ReadsFrom g (upcoming σ t) s → s ≡ latest (cell_of σ (place σ t)).writes
    on_source σ t z o s r = source_one g (upcoming σ t) s (latest (cell_of σ (place σ t)).writes) (C.ordered t) r
        (step_source p wf g σ t z o.ends (reads_as p v σ (records σ (t ∷ z) o).agrees t ∙ M.noted (upcoming σ t) s r))

    -- no read comes after a write that comes after its source
    pub not_late : (z : Schedule) (σ : State) → On σ z → (x y s : Event) → ReadsFrom g x s → Later (coherence_of g (location_of p v x)) y s → Done σ y → (Done σ x → ⊥) → ⊥
    not_late [] σ o x y s r f d n = n (all_done σ o x (reads_event p v x (M.noted x s r)))
    not_late (t ∷ z) σ o x y s r f d n = go (dec_lt x.1 (thread_of (step σ t) x.0).history.done)
        (λ k. not_late z (step σ t) (on_step σ t z o) x y s r f (done_more σ t o.ends.full.0 y d) k)
      where
        now : ReadsFrom g (upcoming σ t) s → Later (coherence_of g (location_of p v (upcoming σ t))) y s → ⊥
        now r f =
            let l = location p v σ (records σ (t ∷ z) o).agrees t in
            none_later (Done σ) (cell_of σ (place σ t)).writes (order_of g (place σ t)) (on_parts σ (t ∷ z) o (place σ t)) (coherence_distinct (place σ t)) y d
            (subst (Later (coherence_of g (place σ t)) y) (on_source σ t z o s r) (subst (λ (k : ℕ). Later (coherence_of g k) y s) l f))

        go : Dec (Done (step σ t) x) → ((Done (step σ t) x → ⊥) → ⊥) → ⊥
        go (no k) ih = ih k
        go (yes k) ih = ⊎_elim (λ (h : Done σ x). n h)
            (λ (h : x ≡ upcoming σ t). now (subst (λ (e : Event). ReadsFrom g e s) h r)
            (subst (λ (e : Event). Later (coherence_of g (location_of p v e)) y s) h f)) (done_cases σ t o.ends.full.0 x k)

    -- each step comes after everything that stands before its event
    pub on_ready : (σ : State) (t : ℕ) (z : Schedule) → On σ (t ∷ z) → (x : Event) → Before p g v x (upcoming σ t) → Done σ x
    on_ready σ t z o x (program_order q h) = omega (arith, ap (λ (u : ℕ). (thread_of σ u).history.done) q)
    on_ready σ t z o x (reads_from r n) =
        let q = on_source σ t z o x r in
        subst (Done σ) (sym q) (o.ends.regular.old (place σ t) (latest (cell_of σ (place σ t)).writes) (latest_in (cell_of σ (place σ t)).writes (λ i. n (q ∙ i))))
    on_ready σ t z o x (coherence l f) =
        let m = o.ends.full.0 in
        let j = on_step σ t z o in
        let k = done_before (Done (step σ t)) (cell_of (step σ t) l).writes (order_of g l) (on_parts (step σ t) z j l) (upcoming σ t) x (done_new σ t m) f in
        ⊎_elim (λ (h : Done σ x). h) (λ (h : x ≡ upcoming σ t). absurd
        (distinct_later (order_of g l) x (C.once l) (subst (λ (y : Event). Later (order_of g l) y x) (sym h) f))) (done_cases σ t m x (j.ends.regular.old l x k))
    on_ready σ t z o x (from_reads s r f n) = go (dec_lt x.1 (thread_of σ x.0).history.done)
      where
        go : Dec (Done σ x) → Done σ x
        go (yes d) = d
        go (no d) =
            let m = o.ends.full.0 in
            absurd (not_late z (step σ t) (on_step σ t z o) x (upcoming σ t) s r f (done_new σ t m)
            (λ k. ⊎_elim (λ (h : Done σ x). d h) (λ (h : x ≡ upcoming σ t). n h) (done_cases σ t m x k)))
