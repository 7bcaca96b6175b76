-- One graph, the same steps: where two full schedules v and w have one graph, v does somewhere each step that w does, from the same state of
-- its thread and with the same source. A graph names no location for a read of the initial write, so this comes before any argument on locations.
use Prim.Native.Nat.{ℕ, ◌<◌}
use mathlib.Core.Path.{◌≡◌, refl, sym, ap, ap₂, subst, ◌∙◌}
use mathlib.Core.Logic.{◌⊎◌, inl, inr, ⊎_elim}
use mathlib.Core.Bool.{true}
use mathlib.Core.Option.{some}
use mathlib.Core.List.{List, [], ◌∷◌, ◌++◌, append_assoc, append-nil, Memᴰ}
use native.Mathlib.Omega.{arith}
use native.Mathlib.Decide.{ℕ_discrete}
use Rattle.spec_schedules.specs.Order.{Schedule}
use Rattle.spec_schedules.specs.System.{run, Allowed, FullFrom}
use Rattle.spec_schedules.proofs.Runs.{run_append, run_snoc, full_split, full_allowed}
use Rattle.spec_sc.specs.Local.{takes, puts}
use Rattle.spec_sc.specs.State.{Event, initial_write, Thread, Cell, State, thread_of, cell_of, place, latest, advanced, step, enabled, SC}
use Rattle.spec_sc.specs.Graph.{graph_of}
use Rattle.spec_sc.proofs.Steps.{enabled_same, enabled_small, enabled_pending, enabled_range, thread_own, thread_other}
use Rattle.spec_sc.proofs.Change.{Change, kept, wrote, wrote_own}
use Rattle.spec_sc.proofs.Regular.{Regular, place_in, changes, regular_step, regular_run}
use Rattle.spec_sc.proofs.Rows.{same_reads}
use Rattle.spec_sc.proofs.Histories.{done_run}
use Rattle.spec_sc.proofs.Growth.{grown, same_latest}
use Rattle.spec_sc.proofs.Reading.{first_step_of, same_place, source, same_source_lem, same_finding}

-- two ways to cut a list
pub compare : (p q : Schedule) (a : ℕ) (r s : Schedule) → p ++ r ≡ q ++ (a ∷ s) → ((y : Schedule) × (q ≡ p ++ y)) ⊎ ((y : Schedule) × (p ≡ q ++ (a ∷ y)))
compare [] q a r s e = inl (q, refl)
compare (x ∷ p) [] a r s e = inr (p, let k : x ≡ a = cc in ap (λ (z : ℕ). z ∷ p) k)
compare (x ∷ p) (y ∷ q) a r s e =
    let h : x ≡ y = cc in
    let t : p ++ r ≡ q ++ (a ∷ s) = cc in
    ⊎_elim (λ (k : (z : Schedule) × (q ≡ p ++ z)). inl (k.0, ap₂ (λ (m : ℕ) (n : Schedule). m ∷ n) (sym h) k.1))
    (λ (k : (z : Schedule) × (p ≡ q ++ (a ∷ z))). inr (k.0, ap₂ (λ (m : ℕ) (n : Schedule). m ∷ n) h k.1)) (compare p q a r s t)

pub latest_in : (ws : List Event) (e : Event) → latest ws ≡ e → e.0 < 6 → Memᴰ e ws
unfolding latest initial_write
latest_in [] e q h = absurd (omega (arith, ap (λ (x : Event). x.0) q))
latest_in (x ∷ ws) e q h = Memᴰ.head (sym q)

pub latest_cons : (ws : List Event) (e : Event) (r : List Event) → ws ≡ e ∷ r → latest ws ≡ e
unfolding latest
latest_cons ws e r q = ap latest q

module _ (σ : State) (reg : Regular σ) (v w : Schedule) (fv : FullFrom SC σ v) (fw : FullFrom SC σ w) (same : graph_of (run SC σ v) ≡ graph_of (run SC σ w)) where
  cut_v : (a b : Schedule) → v ≡ a ++ b → Allowed SC σ a × FullFrom SC (run SC σ a) b
  cut_v a b e = full_split SC σ a b (subst (FullFrom SC σ) e fv)

  cut_w : (a b : Schedule) → w ≡ a ++ b → Allowed SC σ a × FullFrom SC (run SC σ a) b
  cut_w a b e = full_split SC σ a b (subst (FullFrom SC σ) e fw)

  -- v passes through the states that w's threads have reached behind u, and where a location has the same latest write it has the same value
  pub record Same (u : Schedule) : Type 0 where
    pub threads : (a : ℕ) → (p : Schedule) × (q : Schedule) × (v ≡ p ++ q) × (thread_of (run SC σ p) a ≡ thread_of (run SC σ u) a)
    pub cells : (l : ℕ) (p q : Schedule) → v ≡ p ++ q → latest (cell_of (run SC σ p) l).writes ≡ latest (cell_of (run SC σ u) l).writes → (cell_of (run SC σ p) l).value ≡ (cell_of (run SC σ u) l).value

  same_base : Same []
  unfolding run
  same_base = record {
    threads = λ a. ([], v, refl, refl);
    cells = λ l p q e k. let g = grown p σ reg (cut_v p q e).0 l in ap (λ (c : Cell). c.value) (g.none_new (same_latest σ reg p l g k));
  }

  -- where v does what w does next
  pub record Meeting (u : Schedule) (b : ℕ) : Type 0 where
    pub front : Schedule
    pub rest : Schedule
    pub split : v ≡ front ++ (b ∷ rest)
    pub thread : thread_of (run SC σ front) b ≡ thread_of (run SC σ u) b
    pub from : takes (thread_of (run SC σ u) b).local ≡ true → source (run SC σ front) b ≡ source (run SC σ u) b

  meeting : (u : Schedule) (b : ℕ) (r : Schedule) → w ≡ u ++ (b ∷ r) → Same u → Meeting u b
  meeting u b r e s =
      let h = s.threads b in
      let fr = (cut_w u (b ∷ r) e).1 in
      let t = first_step_of h.1 (run SC σ h.0) b (cut_v h.0 h.1 h.2).1 (enabled_same (run SC σ h.0) (run SC σ u) b h.3 ∙ fr.0) in
      let P' : Schedule = h.0 ++ t.front in
      let sp : v ≡ P' ++ (b ∷ t.rest) = h.2 ∙ ap (λ (k : Schedule). h.0 ++ k) t.split ∙ sym (append_assoc h.0 t.front (b ∷ t.rest)) in
      let th : thread_of (run SC σ P') b ≡ thread_of (run SC σ u) b = ap (λ (τ : State). thread_of τ b) (run_append SC σ h.0 t.front) ∙ t.waits ∙ h.3 in
      let fp = (cut_v P' (b ∷ t.rest) sp).1 in
      record {
        front = P';
        rest = t.rest;
        split = sp;
        thread = th;
        from = λ k. same_source_lem (run SC σ P') (run SC σ u) b t.rest r (full_allowed SC (run SC σ P') (b ∷ t.rest) fp).0 (full_allowed SC (run SC σ u) (b ∷ r) fr).0 th k
            (ap (λ (τ : State). (thread_of τ b).history.reads) (sym (run_append SC σ P' (b ∷ t.rest)) ∙ ap (run SC σ) (sym sp)) ∙ same_reads (run SC σ v) (run SC σ w) same b ∙ ap (λ (τ : State). (thread_of τ b).history.reads) (ap (run SC σ) e ∙ run_append SC σ u (b ∷ r)));
      }

  module _ (u : Schedule) (b : ℕ) (r : Schedule) (e : w ≡ u ++ (b ∷ r)) (s : Same u) where
    m : Meeting u b
    m = meeting u b r e s

    abbrev ρ : State
    ρ = run SC σ u

    abbrev τ : State
    τ = run SC σ m.front

    regρ : Regular ρ
    regρ = regular_run u σ reg (cut_w u (b ∷ r) e).0

    regτ : Regular τ
    regτ = regular_run m.front σ reg (cut_v m.front (b ∷ m.rest) m.split).0

    live : enabled ρ b ≡ true
    live = (cut_w u (b ∷ r) e).1.0

    live' : enabled τ b ≡ true
    live' = (cut_v m.front (b ∷ m.rest) m.split).1.0

    where_same : place τ b ≡ place ρ b
    where_same = same_place τ ρ b m.thread

    -- the thread finds the same, so it does the same in both
    both : (advanced (thread_of τ b) (cell_of τ (place τ b)) ≡ advanced (thread_of ρ b) (cell_of ρ (place ρ b))) ×
        (puts (thread_of τ b).local (cell_of τ (place τ b)).value ≡ puts (thread_of ρ b).local (cell_of ρ (place ρ b)).value)
    both =
        let k = same_finding (thread_of ρ b) (cell_of τ (place τ b)) (cell_of ρ (place ρ b)) (enabled_pending ρ b live) (λ k. let src = m.from k in
        (ap (λ (x : ℕ). (cell_of τ x).value) where_same ∙ s.cells (place ρ b) m.front (b ∷ m.rest) m.split (ap (λ (x : ℕ). latest (cell_of τ x).writes) (sym where_same) ∙ src), src)) in (
          ap (λ (h : Thread). advanced h (cell_of τ (place τ b))) m.thread ∙ k.0,
          ap (λ (h : Thread). puts h.local (cell_of τ (place τ b)).value) m.thread ∙ k.1,
        )

    threads_step : (a : ℕ) → Dec (a ≡ b) → (p : Schedule) × (q : Schedule) × (v ≡ p ++ q) × (thread_of (run SC σ p) a ≡ thread_of (step ρ b) a)
    threads_step a (no q) = let h = s.threads a in (h.0, h.1, h.2, h.3 ∙ sym (thread_other ρ b a q))
    threads_step a (yes q) = (
      m.front ++ (b ∷ []),
      m.rest,
      m.split ∙ sym (append_assoc m.front (b ∷ []) m.rest),
      ap (λ (x : State). thread_of x a) (run_snoc SC σ m.front b) ∙ ap (thread_of (step τ b)) q ∙ thread_own τ b (enabled_range τ b live') ∙ both.0 ∙ sym (thread_own ρ b (enabled_range ρ b live)) ∙ ap (thread_of (step ρ b)) (sym q),
    )

    -- v comes to a point p where the location's latest write is the one that b made: p lies behind b's step, and nothing was written there since
    written_step : (l : ℕ) (p q : Schedule) → v ≡ p ++ q → l ≡ place ρ b → (n : ℕ) → puts (thread_of ρ b).local (cell_of ρ (place ρ b)).value ≡ some n →
        latest (cell_of (run SC σ p) l).writes ≡ (b, (thread_of ρ b).history.done) → (cell_of (run SC σ p) l).value ≡ n
    unfolding run
    written_step l p q k y n o top = at (compare p m.front b q m.rest (sym k ∙ m.split))
      where
        ap' : Allowed SC σ p
        ap' = (cut_v p q k).0

        at : ((y : Schedule) × (m.front ≡ p ++ y)) ⊎ ((y : Schedule) × (p ≡ m.front ++ (b ∷ y))) → (cell_of (run SC σ p) l).value ≡ n
        at (inl z) =
            let old = (regular_run p σ reg ap').old l (b, (thread_of ρ b).history.done) (latest_in (cell_of (run SC σ p) l).writes (b, (thread_of ρ b).history.done) top (enabled_small ρ b live)) in
            let mid : FullFrom SC (run SC σ p) (z.0 ++ (b ∷ m.rest)) = (cut_v p (z.0 ++ (b ∷ m.rest)) (m.split ∙ ap (λ (k : Schedule). k ++ (b ∷ m.rest)) z.1 ∙ append_assoc p z.0 (b ∷ m.rest))).1 in
            let mono = done_run z.0 (run SC σ p) (full_split SC (run SC σ p) z.0 (b ∷ m.rest) mid).0 b in
            let here : (thread_of (run SC (run SC σ p) z.0) b).history.done ≡ (thread_of ρ b).history.done = ap (λ (α : State). (thread_of α b).history.done) (sym (run_append SC σ p z.0) ∙ ap (run SC σ) (sym z.1)) ∙ ap (λ (h : Thread). h.history.done) m.thread in
            absurd (omega arith)
        at (inr z) =
            let way : run SC σ p ≡ run SC (step τ b) z.0 = ap (run SC σ) z.1 ∙ run_append SC σ m.front (b ∷ z.0) in
            let own = wrote_own τ b l n (place_in τ regτ b) (y ∙ sym where_same) (both.1 ∙ o) in
            let mid : FullFrom SC τ ((b ∷ z.0) ++ q) = (cut_v m.front ((b ∷ z.0) ++ q) (k ∙ ap (λ (j : Schedule). j ++ q) z.1 ∙ append_assoc m.front (b ∷ z.0) q)).1 in
            let rt = regular_step τ b regτ live' in
            let g = grown z.0 (step τ b) rt (full_split SC (step τ b) z.0 q mid.1).0 l in
            let count : (thread_of ρ b).history.done ≡ (thread_of τ b).history.done = ap (λ (h : Thread). h.history.done) (sym m.thread) in
            let tops : latest (cell_of (run SC (step τ b) z.0) l).writes ≡ latest (cell_of (step τ b) l).writes =
            ap (λ (α : State). latest (cell_of α l).writes) (sym way) ∙ top ∙ ap (λ (d : ℕ). let ev : Event = (b, d) in ev) count ∙ sym (latest_cons (cell_of (step τ b) l).writes (b, (thread_of τ b).history.done) (cell_of τ l).writes own.0) in
            ap (λ (α : State). (cell_of α l).value) way ∙ ap (λ (c : Cell). c.value) (g.none_new (same_latest (step τ b) rt z.0 l g tops)) ∙ own.1

    cells_step : (l : ℕ) (p q : Schedule) → v ≡ p ++ q → latest (cell_of (run SC σ p) l).writes ≡ latest (cell_of (step ρ b) l).writes → Change ρ b l → (cell_of (run SC σ p) l).value ≡ (cell_of (step ρ b) l).value
    cells_step l p q k x (kept y) = s.cells l p q k (x ∙ ap (λ (c : Cell). latest c.writes) y) ∙ ap (λ (c : Cell). c.value) (sym y)
    cells_step l p q k x (wrote y n o ws val) =
        written_step l p q k y n o (x ∙ latest_cons (cell_of (step ρ b) l).writes (b, (thread_of ρ b).history.done) (cell_of ρ l).writes ws) ∙ sym val

    same_step : Same (u ++ (b ∷ []))
    same_step = record {
      threads = λ a. let h = threads_step a (ℕ_discrete a b) in (h.0, h.1, h.2, h.3 ∙ ap (λ (x : State). thread_of x a) (sym (run_snoc SC σ u b)));
      cells = λ l p q k x. cells_step l p q k (x ∙ ap (λ (α : State). latest (cell_of α l).writes) (run_snoc SC σ u b)) (changes ρ regρ b l) ∙ ap (λ (α : State). (cell_of α l).value) (sym (run_snoc SC σ u b));
    }

  all_same : (x u r : Schedule) → w ≡ u ++ (x ++ r) → Same u → Same (u ++ x)
  all_same [] u r e s = subst Same (sym (append-nil u)) s
  all_same (b ∷ x) u r e s = subst Same (append_assoc u (b ∷ []) x) (all_same x (u ++ (b ∷ [])) r (e ∙ sym (append_assoc u (b ∷ []) (x ++ r))) (same_step u b (x ++ r) e s))

  -- DETERMINED: wherever w goes on with b, v does the same step of b somewhere
  pub determined : (u : Schedule) (b : ℕ) (r : Schedule) → w ≡ u ++ (b ∷ r) → Meeting u b
  determined u b r e = meeting u b r e (all_same u [] (b ∷ r) e same_base)
