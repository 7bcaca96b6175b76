-- What R1, R2 and R2 far say of a survivor at each of its places: its byte is at most any that could go first there with the same end; while a pair is
-- twinned it is not the greater thread's access; and where that thread's move could go first there, it is at most the smaller one's move.
use Prim.Native.Nat.{ℕ, ◌+◌, ◌<◌, ◌≤◌}
use mathlib.Core.Path.{◌≡◌, sym, ap, ap₂, subst, ◌∙◌}
use mathlib.Core.Logic.{◌≢◌}
use mathlib.Core.Bool.{true, false, ◌&&◌, true≢false}
use mathlib.Core.List.{List, [], ◌∷◌, ◌++◌, append_assoc, reverse, Memᴰ}
use native.Mathlib.Omega.{arith}
use native.Mathlib.Decide.{dec_lt}
use lib.Dec.{ltb}
use borrow.Author.Tests.{lt-ltb}
use Rattle.spec_file.specs.Program.{Program}
use Rattle.spec_schedules.specs.Lists.{range, any}
use Rattle.spec_schedules.specs.Order.{Schedule, less}
use Rattle.spec_schedules.specs.System.{run, Allowed, FullFrom}
use Rattle.spec_schedules.specs.Orders.{trace}
use Rattle.spec_schedules.specs.Permutations.{moved}
use Rattle.spec_schedules.proofs.Lists.{any_no, any_of, in_range_lem}
use Rattle.spec_schedules.proofs.Order.{AtMost, at_most_not_less, less_heads, less_behind}
use Rattle.spec_schedules.proofs.Runs.{run_append, run_snoc, full_split, full_join}
use Rattle.spec_model.specs.Exchange.{Together, permitted}
use Rattle.spec_model.specs.Laws.{Admitted}
use Rattle.theory_search.specs.Late.{Timely}
use Rattle.spec_model.proofs.Exchanges.{members}
use Rattle.theory_search.proofs.OnTime.{on_time_least}
use Rattle.theory_search.specs.Back.{back}
use Rattle.spec_model.proofs.Passing.{Passed}
use Rattle.theory_search.proofs.Back.{reaches_there}
use Rattle.spec_model.proofs.Traces.{stands, trace_append}
use Rattle.spec_sc.proofs.Same.{both_and}
use Rattle.spec_tso.specs.State.{State, TSO, owner, step, start}
use Rattle.spec_tso.specs.Graph.{graph_of, graph, end_of, Full}
use Rattle.spec_tso.specs.Actions.{Action, action, who, dependent}
use Rattle.spec_tso.proofs.ActionTerms.{actions}
use Rattle.spec_tso.proofs.Bytes.{kind_low, owner_access}
use Rattle.spec_tso.proofs.Regular.{regular_start, regular_run}
use Rattle.spec_tso.specs.TotalStoreOrder.{tso}
use Rattle.spec_tso.proofs.Laws.{tso_laws}
use Rattle.theory_tso.specs.Rules.{late, twin}
use Rattle.theory_tso.specs.Far.{Place, placed, byte_at, dependent_at, twin_moves, starts_by, starts, far}
use Rattle.theory_tso.specs.Survivor.{Survives}
use Rattle.theory_tso.proofs.Phases.{Over, Pulled, pull}
use Rattle.theory_tso.proofs.Twinned.{Tw, kind_16, owner_16}
use Rattle.theory_tso.proofs.TwinTest.{tw_test}
use Rattle.theory_tso.proofs.Pairs.{Pair, Ends, KeepsRules, paired}

-- R1: its steps are on time, so it is the least of its graph
survivor_timely : (p : Program) (w : Schedule) → Survives p w → Timely who dependent (actions (start p) w)
survivor_timely p w s u b z e =
    let r = stands TSO action w (start p) u b z e in
    ap₂ (λ (k : List Action) (x : Action). late (reverse k) x) r.fronts r.does ∙ (s r.before r.byte r.after r.split).0

pub survivor_least : (p : Program) → Admitted tso p → (w : Schedule) → Full p w → Survives p w → (r : Schedule) → Full p r → graph p r ≡ graph p w → AtMost w r
survivor_least p a w f s = (on_time_least tso tso_laws p a w f).0 (survivor_timely p w s)

-- what can be taken over steps passes their places
over_passed : (d : Action) (t : ℕ) (ω : State) → action ω t ≡ d → (f : Schedule) (σ : State) → Over d σ f t → (Memᴰ t f → ⊥) → Passed byte_at dependent_at (trace TSO placed σ f) (ω, t)
unfolding trace
over_passed d t ω e [] σ o n = tt
over_passed d t ω e (x ∷ f) σ o n = ((λ q. n (Memᴰ.head (sym q))), ap (dependent (action σ x)) e ∙ o.3, over_passed d t ω e f (step σ x) o.6 (λ m. n (Memᴰ.tail m)))

module _ (p : Program) (a : Admitted tso p) (w : Schedule) (fw : Full p w) (s : Survives p w) where
  -- R2, of twinned threads
  module _ (v : Schedule) (b : ℕ) (z : Schedule) (e : w ≡ v ++ (b ∷ z)) (u t : ℕ) (h : u < t) (k : Together p u t) (tw : Tw (end_of p v) u t) where
    ne : u ≢ t
    ne i = omega (arith, h, i)

    here : Full p (v ++ (b ∷ z))
    here = subst (Full p) e fw

    parts : Allowed TSO (start p) v × FullFrom TSO (end_of p v) (b ∷ z)
    parts = full_split TSO (start p) v (b ∷ z) here

    passes : twin p (end_of p v) t u ≡ true
    passes = tw_test p a.0 v parts.0 u t ne k tw

    not_taken : owner b ≢ t
    not_taken o = true≢false (sym passes ∙ any_no (twin p (end_of p v) t) (range 0 t) u (subst (λ (x : ℕ). any (twin p (end_of p v) x) (range 0 x) ≡ false) o (s v b z e).1) (in_range_lem 0 t u (omega arith) (omega (arith, h))))

    starts_here : u + 16 < b → starts p (end_of p v, b) (t + 16) ≡ true
    unfolding starts starts_by twin_moves
    starts_here l =
        ap₂ (starts_by p (end_of p v, b)) (kind_16 t) (owner_16 t)
        ∙ any_of (λ x. twin p (end_of p v) t x && ltb (x + 16) b) (range 0 t) u (in_range_lem 0 t u (omega arith) (omega (arith, h))) (both_and passes (lt-ltb (u + 16) b l))

    -- where t's move could be taken, it goes back to here
    gone_far : (f r : Schedule) → z ≡ f ++ ((t + 16) ∷ r) → Over (action (end_of p v) (t + 16)) (end_of p v) (b ∷ f) (t + 16) → (Memᴰ (t + 16) (b ∷ f) → ⊥) →
        action (run TSO (end_of p v) (b ∷ f)) (t + 16) ≡ action (end_of p v) (t + 16) → u + 16 < b → ⊥
    unfolding far trace
    gone_far f r q o n d l = true≢false (sym reached ∙ (s (v ++ (b ∷ f)) (t + 16) r whole).2)
      where
        whole : w ≡ (v ++ (b ∷ f)) ++ ((t + 16) ∷ r)
        whole = e ∙ ap (λ (x : Schedule). v ++ (b ∷ x)) q ∙ sym (append_assoc v (b ∷ f) ((t + 16) ∷ r))

        there : action (end_of p (v ++ (b ∷ f))) (t + 16) ≡ action (end_of p v) (t + 16)
        there = ap (λ (τ : State). action τ (t + 16)) (run_append TSO (start p) v (b ∷ f)) ∙ d

        pass : Passed byte_at dependent_at (trace TSO placed (end_of p v) (b ∷ f)) (end_of p (v ++ (b ∷ f)), t + 16)
        pass = over_passed (action (end_of p v) (t + 16)) (t + 16) (end_of p (v ++ (b ∷ f))) there (b ∷ f) (end_of p v) o n

        places : trace TSO placed (start p) (v ++ (b ∷ f)) ≡ trace TSO placed (start p) v ++ ((end_of p v, b) ∷ trace TSO placed (step (end_of p v) b) f)
        places = trace_append TSO placed v (b ∷ f) (start p)

        reached : far p (v ++ (b ∷ f)) (end_of p (v ++ (b ∷ f))) (t + 16) ≡ true
        reached =
            ap (λ (l : List Place). back byte_at dependent_at (starts p) (reverse l) (end_of p (v ++ (b ∷ f)), t + 16)) places
            ∙ reaches_there byte_at dependent_at (starts p) (trace TSO placed (start p) v) (end_of p v, b) (trace TSO placed (step (end_of p v) b) f) (end_of p (v ++ (b ∷ f)), t + 16)
            (starts_here l) pass

    -- R2 FAR, of twinned threads
    not_far : (r : Schedule) → FullFrom TSO (end_of p v) ((t + 16) ∷ r) → run TSO (end_of p v) ((t + 16) ∷ r) ≡ run TSO (end_of p v) (b ∷ z) → b ≤ u + 16
    not_far r g q = go (dec_lt (u + 16) b) (pull (end_of p v) (regular_run v (start p) (regular_start p a.0) parts.0) (t + 16) r (b ∷ z) g parts.1 q)
      where
        go : Dec (u + 16 < b) → Pulled (end_of p v) (b ∷ z) (t + 16) → b ≤ u + 16
        go (no l) k = omega arith
        go (yes l) k = absurd (at k.front k.rest k.split k.absent k.over k.does)
          where
            at : (f c : Schedule) → b ∷ z ≡ f ++ ((t + 16) ∷ c) → (Memᴰ (t + 16) f → ⊥) → Over (action (end_of p v) (t + 16)) (end_of p v) f (t + 16) →
                action (run TSO (end_of p v) f) (t + 16) ≡ action (end_of p v) (t + 16) → ⊥
            at [] c i n o d = let j : b ≡ t + 16 = cc in not_taken (ap owner j ∙ owner_16 t)
            at (x ∷ f) c i n o d =
                let j : x ≡ b = cc in
                let m : z ≡ f ++ ((t + 16) ∷ c) = cc in
                gone_far f c m (subst (λ (y : ℕ). Over (action (end_of p v) (t + 16)) (end_of p v) (y ∷ f) (t + 16)) j o) (subst (λ (y : ℕ). Memᴰ (t + 16) (y ∷ f) → ⊥) j n)
                (subst (λ (y : ℕ). action (run TSO (end_of p v) (y ∷ f)) (t + 16) ≡ action (end_of p v) (t + 16)) j d) l

  module _ (perm : List ℕ) (mem : Memᴰ perm (permitted p)) where
    -- WHAT THE RULES SAY OF A SURVIVOR
    pub survivor_side : (z v : Schedule) → w ≡ v ++ z → KeepsRules p a.0 perm mem (end_of p v) z
    survivor_side [] v e = tt
    survivor_side (b ∷ z) v e = (
      (λ y r k. low y r k (dec_lt y b)),
      (λ c d k tw i. not_taken v b z e (moved perm d) (moved perm c) k.1 (paired p a.0 perm mem c d k.1 k.2) tw (ap owner i ∙ small (moved perm c) (third c d k))),
      (λ c d k tw r q. not_far v b z e (moved perm d) (moved perm c) k.1 (paired p a.0 perm mem c d k.1 k.2) tw r q.0 q.1),
      subst (λ (τ : State). KeepsRules p a.0 perm mem τ z) (run_snoc TSO (start p) v b) (survivor_side z (v ++ (b ∷ [])) (e ∙ sym (append_assoc v (b ∷ []) z))),
    )
      where
        split : Allowed TSO (start p) v × FullFrom TSO (end_of p v) (b ∷ z)
        split = full_split TSO (start p) v (b ∷ z) (subst (Full p) e fw)

        small : (t : ℕ) → t < 6 → owner t ≡ t
        small t h = (owner_access t (kind_low t (omega arith))).0

        third : (c d : ℕ) → Pair p a.0 perm mem c d → moved perm c < 6
        third c d k =
            let m = members p a.0 (moved perm d) (moved perm c) (paired p a.0 perm mem c d k.1 k.2) in
            let six = a.0.six in
            omega (arith, m.1)

        low : (y : ℕ) (r : Schedule) → Ends p a.0 perm mem (end_of p v) (b ∷ z) (y ∷ r) → Dec (y < b) → b ≤ y
        low y r k (no h) = omega arith
        low y r k (yes h) =
            let m = survivor_least p a w fw s (v ++ (y ∷ r)) (full_join TSO (start p) v (y ∷ r) split.0 k.0)
            (ap graph_of (run_append TSO (start p) v (y ∷ r) ∙ k.1 ∙ sym (run_append TSO (start p) v (b ∷ z)) ∙ ap (end_of p) (sym e))) in
            absurd (true≢false (sym (ap (less (v ++ (y ∷ r))) e ∙ less_behind v (y ∷ r) (b ∷ z) ∙ less_heads y b r z h) ∙ at_most_not_less w (v ++ (y ∷ r)) m))
