-- Each step of a run with this graph fits.
use Prim.Native.Nat.{ℕ, suc, ◌≤◌}
use mathlib.Core.Path.{◌≡◌, refl, sym, ap, subst, ◌∙◌}
use mathlib.Core.Logic.{inl}
use mathlib.Core.Bool.{true, false≢true}
use mathlib.Core.Option.{Option, none, some}
use mathlib.Core.List.{List, [], ◌∷◌, ◌++◌, append_assoc, reverse, reverse-append, reverse-cons, Memᴰ}
use native.Mathlib.Omega.{arith}
use lib.ListN.{length, length-reverse}
use lib.Seq.{get_or_at}
use Rattle.spec_file.specs.Program.{Program}
use Rattle.spec_file.specs.WellFormed.{WellFormed}
use Rattle.spec_schedules.specs.Order.{Schedule}
use Rattle.spec_schedules.specs.System.{run, ended}
use Rattle.spec_schedules.specs.Greedy.{Fitting}
use Rattle.spec_sc.specs.Local.{puts}
use Rattle.spec_sc.specs.State.{Event, initial_write, State, thread_of, cell_of, place, latest, step, SC}
use Rattle.spec_sc.specs.Actions.{given}
use Rattle.spec_sc.specs.Graph.{Graph, graph_of}
use Rattle.spec_sc.proofs.Change.{wrote_own}
use Rattle.spec_sc.proofs.Regular.{place_in}
use Rattle.spec_sc.proofs.Histories.{upcoming, Done}
use Rattle.spec_judge.specs.Consistent.{order_of, coherence_of, ReadsFrom, Later, location_of, Canonical, Makes, from_reads}
use Rattle.spec_judge.proofs.RoundValues.{values}
use Rattle.spec_judge.proofs.Walk.{next_write, fits}
use Rattle.spec_judge.proofs.Later.{later_right}
use Rattle.spec_judge.proofs.Agreement.{location}
use Rattle.spec_judge.proofs.Rounds.{order_suffix, step_source}
use Rattle.spec_judge.proofs.OnRun.{On, on_step, on_ready}
use Rattle.spec_judge.proofs.Fitting.{IsNext, is_fits}

-- the write whose turn it is stands in front of those that have come
next_write_is : (ws front w : List Event) (e : Event) → ws ≡ front ++ (e ∷ w) → next_write ws (length w) ≡ e
unfolding next_write
next_write_is ws front w e q =
    let r : reverse ws ≡ reverse w ++ (e ∷ reverse front) =
    ap reverse q ∙ reverse-append front (e ∷ w) ∙ ap (λ (l : List Event). l ++ reverse front) (reverse-cons e w) ∙ append_assoc (reverse w) (e ∷ []) (reverse front) in
    rw r (get_or_at (reverse w) e (reverse front) initial_write (length w) (length-reverse w))

latest_behind : (w : List Event) → Memᴰ (latest w) (w ++ (initial_write ∷ []))
unfolding latest
latest_behind [] = Memᴰ.head refl
latest_behind (e ∷ w) = Memᴰ.head refl

-- places by the values of round n, which are those of round N for the reads of the graph
module _ (p : Program) (wf : WellFormed p) (g : Graph) (C : Canonical p g) (N : ℕ) (M : Makes p g (values p g N)) (n : ℕ) (near : N ≤ suc n)
    (same : (e s : Event) → ReadsFrom g e s → location_of p (values p g n) e ≡ location_of p (values p g N) e) where
  abbrev pl : Event → ℕ
  pl = location_of p (values p g n)

  module _ (σ : State) (t : ℕ) (z : Schedule) (o : On p wf g C N σ (t ∷ z)) where
    abbrev e : Event
    e = upcoming σ t

    abbrev w : List Event
    w = (cell_of σ (place σ t)).writes

    at : pl e ≡ place σ t
    at = location p (values p g n) σ (o.known n (omega (arith, o.enough, near))).agrees t

    -- a write stands in the graph in front of those that have come
    in_graph : (x : ℕ) → puts (thread_of σ t).local (cell_of σ (place σ t)).value ≡ some x → (front : List Event) × (order_of g (place σ t) ≡ front ++ (e ∷ w))
    in_graph x q =
        let r = order_suffix p wf g (step σ t) z (on_step p wf g C N σ t z o).ends (place σ t) in
        (r.0, r.1 ∙ ap (λ (l : List Event). r.0 ++ l) (wrote_own σ t (place σ t) x (place_in σ o.ends.regular t) refl q).0)

    -- a write comes later than the last write before it
    later_latest : (front : List Event) → order_of g (place σ t) ≡ front ++ (e ∷ w) → Later (coherence_of g (place σ t)) e (latest w)
    later_latest front q =
        let i : coherence_of g (place σ t) ≡ front ++ (e ∷ (w ++ (initial_write ∷ []))) = ap (λ (l : List Event). l ++ (initial_write ∷ [])) q ∙
        append_assoc front (e ∷ w) (initial_write ∷ []) in
        subst (λ (l : List Event). Later l e (latest w)) (sym i) (later_right front (e ∷ (w ++ (initial_write ∷ []))) e (latest w) (inl (refl, latest_behind w)))

    next_there : (x : Option ℕ) → puts (thread_of σ t).local (cell_of σ (place σ t)).value ≡ x → given x ≡ true → IsNext g pl e (place σ t) (cell_of σ (place σ t)) (Done σ)
    unfolding given
    next_there none q k = absurd (false≢true k)
    next_there (some x) q k =
        let r = in_graph x q in (
          next_write_is (order_of g (place σ t)) r.0 w e r.1,
          λ y s a i j d. on_ready p wf g C N M σ t z o y
              (from_reads s a (subst (λ (l : ℕ). Later (coherence_of g l) e s) (sym (sym (same y s a) ∙ j))
              (subst (Later (coherence_of g (place σ t)) e) (sym i) (later_latest r.0 r.1))) d),
        )

    pub on_fits : fits g pl σ t ≡ true
    unfolding place
    on_fits = is_fits g pl σ t (record {
      live = o.ends.full.0;
      reads = λ k. (step_source p wf g σ t z o.ends k, at);
      writes = next_there (puts (thread_of σ t).local (cell_of σ (place σ t)).value) refl;
    })

  -- the goal of the walk: all threads have ended with this graph
  pub on_fitting : (z : Schedule) (σ : State) → On p wf g C N σ z → Fitting SC (fits g pl) (λ τ. (ended SC τ ≡ true) × (graph_of τ ≡ g)) σ z
  unfolding run
  on_fitting [] σ o = (o.ends.full, o.ends.graph)
  on_fitting (t ∷ z) σ o = (on_fits σ t z o, on_fitting z (step σ t) (on_step p wf g C N σ t z o))
