-- One graph, the same accesses: where two full schedules v and w have one graph, v does somewhere each access that w does, from the same local state and
-- history and with the same source. The values are those of v's writes, and w's states agree with them too.
use Prim.Native.Nat.{ℕ, ◌<◌}
use mathlib.Core.Path.{◌≡◌, refl, sym, ap, ap₂, subst, ◌∙◌}
use mathlib.Core.Logic.{◌≢◌, inl, inr}
use mathlib.Core.Bool.{Bool, true, false}
use mathlib.Core.Option.{some}
use mathlib.Core.List.Memᴰ
use mathlib.Core.List.{[], ◌∷◌, ◌++◌, append_assoc, append-nil, Memᴰ}
use native.Mathlib.Omega.{arith}
use native.Mathlib.Decide.{ℕ_discrete}
use lib.ListN.{length}
use Rattle.spec_schedules.specs.Order.{Schedule}
use Rattle.spec_schedules.specs.System.{run, Allowed, FullFrom}
use Rattle.spec_schedules.proofs.Runs.{run_append, run_snoc, full_split, full_allowed}
use Rattle.spec_sc.specs.Local.{pending, takes, puts}
use Rattle.spec_sc.specs.State.{Event, Cell}
use Rattle.spec_sc.proofs.Determined.{latest_cons}
use Rattle.spec_tso.specs.Queue.{Entry, queued, at_once}
use Rattle.spec_tso.specs.State.{Thread, State, thread_of, cell_of, locked, finds, target, number_of, thread_behind, reaches, place, step_of, able, kind_of, owner, step, enabled, TSO, Kind, access, move}
use Rattle.spec_tso.specs.Graph.{graph_of}
use Rattle.spec_tso.proofs.Steps.{enabled_small, enabled_able, step_access, enabled_access, able_pending, able_range, thread_own, thread_other}
use Rattle.spec_tso.proofs.Bytes.{move≢access, owner_access}
use Rattle.spec_tso.proofs.Seen.{same_reads}
use Rattle.spec_tso.proofs.Change.{done_grows, wrote_own}
use Rattle.spec_tso.proofs.Values.{Values, Agrees, finds_value, writing, agrees_step, Old, agrees_old, values_step}
use Rattle.spec_tso.proofs.Regular.{Regular, place_in, changes, regular_step, regular_run}
use Rattle.spec_tso.proofs.Reading.{Core, core_same, core_sym, core_trans, step_of_core, first_access, source, same_place, same_source_lem, same_finding}

-- what was known stays so
old_step : (σ : State) (b : ℕ) → enabled σ b ≡ true → (e : Event) → Old σ e → Old (step σ b) e
unfolding step
old_step σ b m e (inl q) = inl q
old_step σ b m e (inr q) = let g = done_grows σ (kind_of b) (owner b) (able_range σ (kind_of b) (owner b) (length σ.cells) (enabled_able σ b m)) e.0 in inr (omega arith)

-- ONE VALUE FOR EACH WRITE, along a whole run
pub values_run : (s : Schedule) (σ : State) (β : Values) → Regular σ → Agrees β σ → Allowed TSO σ s →
    (γ : Values) × ((l : ℕ) (e : Event) → Old σ e → γ l e ≡ β l e) × ((u r : Schedule) → s ≡ u ++ r → Agrees γ (run TSO σ u))
unfolding run step
values_run [] σ β r a al = (β, λ l e o. refl, λ u q e. at u q e)
  where
    at : (u q : Schedule) → [] ≡ u ++ q → Agrees β (run TSO σ u)
    at [] q e = a
    at (x ∷ u) q e = absurd (let z : ◌≡◌ {A = ℕ} 0 1 = cc in omega arith)
values_run (b ∷ s) σ β r a al =
    let q = values_step β σ (kind_of b) (owner b) (enabled_able σ b al.0) (changes σ r (kind_of b) (owner b) (enabled_able σ b al.0)) (enabled_small σ b al.0) r.stores a in
    let ih = values_run s (step σ b) q.0 (regular_step σ b r al.0) q.2 al.1 in
    let old : ((l : ℕ) (e : Event) → Old σ e → ih.0 l e ≡ β l e) = λ l e o. ih.1 l e (old_step σ b al.0 e o) ∙ q.1 l e o in
    (ih.0, old, λ u y e. at ih.0 old ih.2 u y e)
  where
    at : (γ : Values) → ((l : ℕ) (e : Event) → Old σ e → γ l e ≡ β l e) → ((u y : Schedule) → s ≡ u ++ y → Agrees γ (run TSO (step σ b) u)) → (u y : Schedule) → b ∷ s ≡ u ++ y → Agrees γ (run TSO σ u)
    at γ old f [] y e = agrees_old β γ σ r.stores a old
    at γ old f (x ∷ u) y e =
        let i : b ≡ x = cc in
        let k : s ≡ u ++ y = cc in
        subst (λ (j : ℕ). Agrees γ (run TSO (step σ j) u)) i (f u y k)

-- an access that writes: a locked one puts, another leaves an entry
put_locked : (t : ℕ) (h : Thread) (c : Cell) (x : ℕ) → locked h.local ≡ true → puts h.local (finds t h c).value ≡ some x → reaches access t h c ≡ some x
unfolding reaches at_once
put_locked t h c x e q = rw (e, q)

abbrev stored : State → ℕ → ℕ → Entry
stored τ t x = record { number = (thread_of τ t).history.done; location = place τ access t; value = x }

put_queued : (τ : State) (t x : ℕ) → locked (thread_of τ t).local ≡ false → writing τ t ≡ some x → Memᴰ (stored τ t x) (thread_behind access t (thread_of τ t) (cell_of τ (place τ access t))).queue
unfolding thread_behind queued place target
put_queued τ t x e q = Memᴰ.append_right (thread_of τ t).queue (rw (e, q) (Memᴰ.head refl))

-- behind an access that writes, its event has the value that it wrote
stored_value : (β : Values) (τ : State) (t : ℕ) → Regular τ → able access (thread_of τ t) (length τ.cells) ≡ true → Agrees β (step_of τ access t) → (x : ℕ) → writing τ t ≡ some x → β (place τ access t) (t, (thread_of τ t).history.done) ≡ x
unfolding number_of
stored_value β τ t r m a x q = go (locked (thread_of τ t).local) refl
  where
    go : (b : Bool) → locked (thread_of τ t).local ≡ b → β (place τ access t) (t, (thread_of τ t).history.done) ≡ x
    go true e =
        let w = wrote_own τ access t (place τ access t) x (place_in τ r access t m) refl (put_locked t (thread_of τ t) (cell_of τ (place τ access t)) x e q) in
        ap (β (place τ access t)) (sym (latest_cons (cell_of (step_of τ access t) (place τ access t)).writes _ _ w.0)) ∙ sym (a.cells (place τ access t)) ∙ w.1
    go false e = sym (a.entries t (stored τ t x) (subst (λ (h : Thread). Memᴰ (stored τ t x) h.queue) (sym (thread_own τ access t (able_range τ access t (length τ.cells) m))) (put_queued τ t x e q)))

module _ (σ : State) (reg : Regular σ) (v w : Schedule) (fv : FullFrom TSO σ v) (fw : FullFrom TSO σ w) (same : graph_of (run TSO σ v) ≡ graph_of (run TSO σ w)) where
  cut_v : (a b : Schedule) → v ≡ a ++ b → Allowed TSO σ a × FullFrom TSO (run TSO σ a) b
  cut_v a b e = full_split TSO σ a b (subst (FullFrom TSO σ) e fv)

  cut_w : (a b : Schedule) → w ≡ a ++ b → Allowed TSO σ a × FullFrom TSO (run TSO σ a) b
  cut_w a b e = full_split TSO σ a b (subst (FullFrom TSO σ) e fw)

  -- the values of v's writes
  pub known : (γ : Values) × ((l : ℕ) (e : Event) → Old σ e → γ l e ≡ reg.valued.0 l e) × ((u r : Schedule) → v ≡ u ++ r → Agrees γ (run TSO σ u))
  known = values_run v σ reg.valued.0 reg reg.valued.1 (full_allowed TSO σ v fv).0

  -- v passes through the local states that w's threads have reached behind u, and the values agree
  pub record Same (u : Schedule) : Type 0 where
    pub threads : (a : ℕ) → (p : Schedule) × (q : Schedule) × (v ≡ p ++ q) × Core (thread_of (run TSO σ p) a) (thread_of (run TSO σ u) a)
    pub agrees : Agrees known.0 (run TSO σ u)

  same_base : Same []
  unfolding run
  same_base = record { threads = λ a. ([], v, refl, (refl, refl)); agrees = known.2 [] v refl }

  -- where v does the access that w does next
  pub record Meeting (u : Schedule) (t : ℕ) : Type 0 where
    pub front : Schedule
    pub rest : Schedule
    pub split : v ≡ front ++ (t ∷ rest)
    pub core : Core (thread_of (run TSO σ front) t) (thread_of (run TSO σ u) t)
    pub from : takes (thread_of (run TSO σ u) t).local ≡ true → source (run TSO σ front) t ≡ source (run TSO σ u) t

  meeting : (u : Schedule) (t : ℕ) (r : Schedule) → t < 6 → w ≡ u ++ (t ∷ r) → Same u → Meeting u t
  meeting u t r low e s =
      let h = s.threads t in
      let fr = (cut_w u (t ∷ r) e).1 in
      let al = cut_v h.0 h.1 h.2 in
      let pend = able_pending (thread_of (run TSO σ u) t) (length (run TSO σ u).cells) (sym (enabled_access (run TSO σ u) t low) ∙ fr.0) in
      let f = first_access h.1 (run TSO σ h.0) t (regular_run h.0 σ reg al.0) low al.1 (ap pending h.3.0 ∙ pend) in
      let P' : Schedule = h.0 ++ f.front in
      let sp : v ≡ P' ++ (t ∷ f.rest) = h.2 ∙ ap (λ (k : Schedule). h.0 ++ k) f.split ∙ sym (append_assoc h.0 f.front (t ∷ f.rest)) in
      let th : Core (thread_of (run TSO σ P') t) (thread_of (run TSO σ u) t) = core_trans (thread_of (run TSO σ P') t) (thread_of (run TSO σ h.0) t) (thread_of (run TSO σ u) t)
      (subst (λ (τ : State). Core (thread_of τ t) (thread_of (run TSO σ h.0) t)) (sym (run_append TSO σ h.0 f.front)) f.waits) h.3 in
      let fp = (cut_v P' (t ∷ f.rest) sp).1 in
      record {
        front = P';
        rest = f.rest;
        split = sp;
        core = th;
        from = λ k. same_source_lem (run TSO σ P') (run TSO σ u) t f.rest r low (full_allowed TSO (run TSO σ P') (t ∷ f.rest) fp).0 (full_allowed TSO (run TSO σ u) (t ∷ r) fr).0 th k
            (ap (λ (τ : State). (thread_of τ t).history.reads) (sym (run_append TSO σ P' (t ∷ f.rest)) ∙ ap (run TSO σ) (sym sp)) ∙ same_reads (run TSO σ v) (run TSO σ w) same t
            ∙ ap (λ (τ : State). (thread_of τ t).history.reads) (ap (run TSO σ) e ∙ run_append TSO σ u (t ∷ r)));
      }

  -- behind a move: nobody's local state changes, and the value moves with its event
  move_step : (u : Schedule) (b : ℕ) (r : Schedule) → w ≡ u ++ (b ∷ r) → kind_of b ≡ move → Same u → Same (u ++ (b ∷ []))
  unfolding step
  move_step u b r e k s =
      let ρ = run TSO σ u in
      let c = cut_w u (b ∷ r) e in
      let m = enabled_able ρ b c.1.0 in
      let at = run_snoc TSO σ u b in record {
        threads = λ a. let h = s.threads a in (
          h.0,
          h.1,
          h.2,
          core_trans (thread_of (run TSO σ h.0) a) (thread_of ρ a) (thread_of (run TSO σ (u ++ (b ∷ []))) a) h.3
              (subst (λ (τ : State). Core (thread_of ρ a) (thread_of τ a)) (sym at) (core_sym (thread_of (step_of ρ (kind_of b) (owner b)) a) (thread_of ρ a) (step_of_core ρ (kind_of b) (owner b) a m (λ q i. move≢access (sym k ∙ q))))),
        );
        agrees = subst (Agrees known.0) (sym at) (agrees_step known.0 ρ (kind_of b) (owner b) m (changes ρ (regular_run u σ reg c.0) (kind_of b) (owner b) m) s.agrees (λ x q. absurd (move≢access (sym k ∙ q))));
      }

  -- behind an access
  module _ (u : Schedule) (t : ℕ) (r : Schedule) (low : t < 6) (e : w ≡ u ++ (t ∷ r)) (s : Same u) where
    m : Meeting u t
    m = meeting u t r low e s

    abbrev ρ : State
    ρ = run TSO σ u

    abbrev τ : State
    τ = run TSO σ m.front

    regρ : Regular ρ
    regρ = regular_run u σ reg (cut_w u (t ∷ r) e).0

    regτ : Regular τ
    regτ = regular_run m.front σ reg (cut_v m.front (t ∷ m.rest) m.split).0

    live : able access (thread_of ρ t) (length ρ.cells) ≡ true
    live = sym (enabled_access ρ t low) ∙ (cut_w u (t ∷ r) e).1.0

    live' : able access (thread_of τ t) (length τ.cells) ≡ true
    live' = sym (enabled_access τ t low) ∙ (cut_v m.front (t ∷ m.rest) m.split).1.0

    where_same : place τ access t ≡ place ρ access t
    where_same = same_place τ ρ t m.core

    -- the access finds the same in both runs, so it does the same
    alike : Core (thread_behind access t (thread_of τ t) (cell_of τ (place τ access t))) (thread_behind access t (thread_of ρ t) (cell_of ρ (place ρ access t))) × (writing τ t ≡ writing ρ t)
    alike = same_finding t (thread_of τ t) (thread_of ρ t) (cell_of τ (place τ access t)) (cell_of ρ (place ρ access t)) m.core (able_pending (thread_of ρ t) (length ρ.cells) live)
        (λ k. let src = m.from k in (finds_value known.0 τ (known.2 m.front (t ∷ m.rest) m.split) t ∙ ap₂ known.0 where_same src ∙ sym (finds_value known.0 ρ s.agrees t), src))

    own_τ : thread_of (step τ t) t ≡ thread_behind access t (thread_of τ t) (cell_of τ (place τ access t))
    own_τ = ap (λ (x : State). thread_of x t) (step_access τ t (omega (arith, low))) ∙ thread_own τ access t (able_range τ access t (length τ.cells) live')

    own_ρ : thread_of (step ρ t) t ≡ thread_behind access t (thread_of ρ t) (cell_of ρ (place ρ access t))
    own_ρ = ap (λ (x : State). thread_of x t) (step_access ρ t (omega (arith, low))) ∙ thread_own ρ access t (able_range ρ access t (length ρ.cells) live)

    split_more : v ≡ (m.front ++ (t ∷ [])) ++ m.rest
    split_more = m.split ∙ sym (append_assoc m.front (t ∷ []) m.rest)

    threads_step : (a : ℕ) → Dec (a ≡ t) → (p : Schedule) × (q : Schedule) × (v ≡ p ++ q) × Core (thread_of (run TSO σ p) a) (thread_of (step ρ t) a)
    threads_step a (no d) =
        let h = s.threads a in (
          h.0,
          h.1,
          h.2,
          core_trans (thread_of (run TSO σ h.0) a) (thread_of ρ a) (thread_of (step ρ t) a) h.3
              (core_same (thread_of ρ a) (thread_of (step ρ t) a) (sym (ap (λ (x : State). thread_of x a) (step_access ρ t (omega (arith, low))) ∙ thread_other ρ access t a d))),
        )
    threads_step a (yes d) = (
      m.front ++ (t ∷ []),
      m.rest,
      split_more,
      subst (λ (x : ℕ). Core (thread_of (run TSO σ (m.front ++ (t ∷ []))) x) (thread_of (step ρ t) x)) (sym d)
          (subst (λ (x : State). Core (thread_of x t) (thread_of (step ρ t) t)) (sym (run_snoc TSO σ m.front t))
          (subst (λ (x : Thread). Core x (thread_of (step ρ t) t)) (sym own_τ) (subst (λ (x : Thread). Core (thread_behind access t (thread_of τ t) (cell_of τ (place τ access t))) x) (sym own_ρ) alike.0))),
    )

    agrees_behind : Agrees known.0 (step_of ρ access t)
    agrees_behind = agrees_step known.0 ρ access t live (changes ρ regρ access t live) s.agrees
        (λ x q o. ap₂ (λ (l i : ℕ). known.0 l (t, i)) (sym where_same) (ap (λ h. h.done) (sym m.core.1))
        ∙ stored_value known.0 τ t regτ live' (subst (Agrees known.0) (run_snoc TSO σ m.front t ∙ step_access τ t (omega (arith, low))) (known.2 (m.front ++ (t ∷ [])) m.rest split_more)) x (alike.1 ∙ o))

    access_step : Same (u ++ (t ∷ []))
    access_step = record {
      threads = λ a. let h = threads_step a (ℕ_discrete a t) in (h.0, h.1, h.2, subst (λ (x : State). Core (thread_of (run TSO σ h.0) a) (thread_of x a)) (sym (run_snoc TSO σ u t)) h.3);
      agrees = subst (Agrees known.0) (sym (run_snoc TSO σ u t ∙ step_access ρ t (omega (arith, low)))) agrees_behind;
    }

  same_step : (u : Schedule) (b : ℕ) (r : Schedule) → w ≡ u ++ (b ∷ r) → Same u → Same (u ++ (b ∷ []))
  same_step u b r e s = go (kind_of b) refl
    where
      go : (k : Kind) → kind_of b ≡ k → Same (u ++ (b ∷ []))
      go access q = access_step u b r (subst (λ (x : ℕ). x < 6) (owner_access b q).0 (enabled_small (run TSO σ u) b (cut_w u (b ∷ r) e).1.0)) e s
      go move q = move_step u b r e q s

  all_same : (x u r : Schedule) → w ≡ u ++ (x ++ r) → Same u → Same (u ++ x)
  all_same [] u r e s = subst Same (sym (append-nil u)) s
  all_same (b ∷ x) u r e s = subst Same (append_assoc u (b ∷ []) x) (all_same x (u ++ (b ∷ [])) r (e ∙ sym (append_assoc u (b ∷ []) (x ++ r))) (same_step u b (x ++ r) e s))

  -- DETERMINED: wherever w goes on with an access of t, v does the same access somewhere
  pub determined : (u : Schedule) (t : ℕ) (r : Schedule) → t < 6 → w ≡ u ++ (t ∷ r) → Meeting u t
  determined u t r low e = meeting u t r low e (all_same u [] (t ∷ r) e same_base)
