-- The walk, step after step: what has been walked and what is left make the whole walk.
use Prim.Native.Nat.{ℕ, zero, suc, ◌+◌, ◌*◌, ◌-◌, ◌<◌, ◌≤◌}
use mathlib.Core.Path.{◌≡◌, refl, sym, ap, subst, ◌∙◌}
use mathlib.Core.Bool.{Bool, true, false, cond, true≢false}
use mathlib.Core.Option.{Option, none, some}
use mathlib.Core.List.{List, [], ◌∷◌, ◌++◌, append-nil, append_assoc, reverse}
use native.Mathlib.Omega.{arith}
use native.Mathlib.Decide.{ℕ_discrete}
use lib.Dec.{eqb}
use lib.ListN.{length, get_or, set, replicate, get_or-replicate, length-append}
use lib.Seq.{get_or-set_same, get_or-set_other, get_or-append_seam}
use Rattle.spec_file.specs.Program.{Program}
use Rattle.spec_schedules.specs.Lists.{find, range}
use Rattle.spec_schedules.specs.Order.{Schedule}
use Rattle.spec_schedules.specs.System.{run, Allowed}
use Rattle.spec_schedules.specs.Greedy.{greedy}
use Rattle.spec_schedules.proofs.Runs.{run_snoc, allowed_join}
use Rattle.spec_schedules.proofs.Lists.{range_ascends}
use Rattle.spec_schedules.proofs.Greedy.{FindIs, found_at, nowhere, find_is}
use Rattle.machine.specs.declared.state.Machine.{Machine}
use Rattle.machine.specs.declared.stepping.Stepped.{Stepped}
use Rattle.spec_sc.specs.State.{Event, State, place, step, enabled, SC, start}
use Rattle.spec_sc.specs.Graph.{Graph, graph_of}
use Rattle.machine.specs.Held.{Holds, HoldsStep, Ready}
use Rattle.spec_sc.proofs.Steps.{enabled_range, enabled_small}
use Rattle.spec_sc.proofs.Start.{start_writes, start_history}
use Rattle.spec_sc.proofs.Regular.{Regular}
use Rattle.spec_sc.proofs.Rows.{row_at, order_at}
use Rattle.spec_judge.specs.Consistent.{location_of}
use Rattle.spec_judge.proofs.RoundValues.{final_values}
use Rattle.spec_judge.proofs.Walk.{fits, walk}
use Rattle.graph_reader.specs.Held.{no_line, line_in, Entry, Tabled}
use Rattle.judge_next.specs.HeldWalk.{Ranged, Given, Walking, next_of}
use Rattle.judge.specs.MadeTable.{source_added, event_added, count_added}
use Rattle.judge.specs.HeldYes.{Walked}
use Rattle.graph_reader.proofs.Entries.{unset}
use Rattle.judge.proofs.MadeTables.{made_step}
use Rattle.judge_next.proofs.WalkChoice.{walk_regular, walk_near, walk_ranged, walk_ready}

-- a thread that fits may step
fits_steps : (g : Graph) (pl : Event → ℕ) (σ : State) (t : ℕ) → fits g pl σ t ≡ true → enabled σ t ≡ true
unfolding fits
fits_steps g pl σ t h = go (enabled σ t) refl
  where
    go : (b : Bool) → enabled σ t ≡ b → enabled σ t ≡ true
    go true q = q
    go false q = absurd (true≢false (sym h ∙ rw q))

first_fits : (f : ℕ → Bool) (t : ℕ) → find f (range 0 6) ≡ some t → f t ≡ true
first_fits f t e = go (find f (range 0 6)) (find_is f (range 0 6) (range_ascends 0 6)) e
  where
    go : (o : Option ℕ) → FindIs f (range 0 6) o → o ≡ some t → f t ≡ true
    go (some u) (found_at {t = v} m q low) z = subst (λ (x : ℕ). f x ≡ true) (let k : v ≡ t = cc in k) q
    go none (nowhere low) z = absurd (let n : ◌≡◌ {A = ℕ} 0 1 = cc in omega arith)

get_d_front : (s r : Schedule) (j : ℕ) → j < length s → get_or (s ++ r) j 0 ≡ get_or s j 0
get_d_front [] r j h = absurd (omega arith)
get_d_front (x ∷ s) r zero h = refl
get_d_front (x ∷ s) r (suc j) h = get_d_front s r j (omega arith)

get_d_behind : (s : Schedule) (t j : ℕ) → j ≡ length s → get_or (s ++ (t ∷ [])) j 0 ≡ t
get_d_behind s t j q = ap (λ (x : ℕ). get_or (s ++ (t ∷ [])) x 0) q ∙ get_or-append_seam s t [] 0

-- the steps so far
pub record Progress (code lengths : List ℕ) (p : Program) (g : Graph) (m : Machine) (made counts schedule : List ℕ) (k : ℕ) : Type 0 where
  pub so_far : Schedule
  pub size : length so_far ≡ k
  pub most : k ≤ 24
  pub kept : (j : ℕ) → j < k → get_or schedule j 0 ≡ get_or so_far j 0
  pub allowed : Allowed SC (start p) so_far
  pub holds : Holds code lengths m (run SC (start p) so_far)
  pub tabled : Tabled made counts (graph_of (run SC (start p) so_far))
  pub rest : walk p g ≡ so_far ++ greedy SC (fits g (location_of p (final_values p g))) (24 - k) (run SC (start p) so_far)

-- before the first step
pub walk_start : (code lengths : List ℕ) (p : Program) (g : Graph) (m : Machine) (schedule : List ℕ) → Holds code lengths m (start p)
    → Progress code lengths p g m (replicate 576 254) (replicate 8 0) schedule 0
unfolding walk run line_in no_line
walk_start code lengths p g m schedule H = record {
  so_far = [];
  size = refl;
  most = omega arith;
  kept = λ j h. absurd (omega arith);
  allowed = tt;
  holds = H;
  tabled = record {
    sources = λ t i a b. subst (λ (row : List (ℕ × Event)). Entry (replicate 576 254) (t * 16 + i) (line_in row i)) (sym (row_at (start p) t ∙ (start_history p t).1)) (unset (t * 16 + i) (omega arith));
    orders = λ l k a b. subst (λ (ws : List Event). Entry (replicate 576 254) (96 + (l * 24 + k)) (get_or (reverse ws) k (254, 254))) (sym (order_at (start p) l ∙ start_writes p l)) (unset (96 + (l * 24 + k)) (omega arith));
    counts = λ l a. get_or-replicate 8 l 0 0 a ∙ sym (ap length (order_at (start p) l ∙ start_writes p l));
  };
  rest = refl;
}

module _ (code lengths : List ℕ) (n : ℕ) (pairs table : List ℕ) (p : Program) (g : Graph) (X : Given code lengths n pairs table p g)
    (m : Machine) (made counts schedule : List ℕ) (k : ℕ) (G : Progress code lengths p g m made counts schedule k) where
  abbrev s : Schedule
  s = G.so_far

  pub walk_on : Walking code lengths n pairs table p g m counts G.so_far
  walk_on = record {
    given = X;
    allowed = G.allowed;
    holds = G.holds;
    made = λ l a. G.tabled.counts l a ∙ ap length (order_at (run SC (start p) s) l);
  }

  -- the walk is over
  over : walk p g ≡ s → (few : (l : ℕ) → get_or counts l 0 ≤ 24)
      → Walked code lengths p g (record { schedule = schedule; steps = k; machine = m; made = record { pairs = made; counts = counts } })
  over e few = record {
    steps = sym G.size ∙ ap length (sym e);
    most = G.most;
    schedule = λ j h. G.kept j h ∙ ap (λ (x : Schedule). get_or x j 0) (sym e);
    allowed = subst (Allowed SC (start p)) (sym e) G.allowed;
    holds = subst (λ (x : Schedule). Holds code lengths m (run SC (start p) x)) (sym e) G.holds;
    made = subst (λ (x : Schedule). Tabled made counts (graph_of (run SC (start p) x))) (sym e) G.tabled;
    few = few;
  }

  pub walk_whole : 24 ≤ k → ((l : ℕ) → get_or counts l 0 ≤ 24) → Walked code lengths p g (record { schedule = schedule; steps = k; machine = m; made = record { pairs = made; counts = counts } })
  unfolding greedy
  walk_whole h = over (G.rest ∙ ap (λ (j : ℕ). s ++ greedy SC (fits g (location_of p (final_values p g))) j (run SC (start p) s)) (let z : 24 - k ≡ 0 = omega arith in z) ∙ append-nil s)

  -- a step more, or none
  module _ (left : k < 24) where
    abbrev afterwards : Option ℕ → Schedule
    afterwards none = []
    afterwards (some u) = u ∷ greedy SC (fits g (location_of p (final_values p g))) (24 - (k + 1)) (step (run SC (start p) s) u)

    go_on : greedy SC (fits g (location_of p (final_values p g))) (24 - k) (run SC (start p) s)
        ≡ afterwards (next_of p g s)
    unfolding greedy
    go_on = ap (λ (j : ℕ). greedy SC (fits g (location_of p (final_values p g))) j (run SC (start p) s)) (let z : 24 - k ≡ suc (24 - (k + 1)) = omega arith in z)

    -- nobody fits
    pub walk_stops : none ≡ next_of p g G.so_far → ((l : ℕ) → get_or counts l 0 ≤ 24)
        → Walked code lengths p g (record { schedule = schedule; steps = k; machine = m; made = record { pairs = made; counts = counts } })
    walk_stops e = over (G.rest ∙ ap (λ (x : Schedule). s ++ x) (go_on ∙ ap afterwards (sym e)) ∙ append-nil s)

    -- t does
    module _ (t : ℕ) (choice : some t ≡ next_of p g G.so_far) where
      pub walk_enabled : enabled (run SC (start p) G.so_far) t ≡ true
      walk_enabled = fits_steps g (location_of p (final_values p g)) (run SC (start p) s) t (first_fits (fits g (location_of p (final_values p g)) (run SC (start p) s)) t (sym choice))

      pub walk_steps : Ready lengths m t
      walk_steps = walk_ready code lengths n pairs table p g m counts s walk_on t walk_enabled

      pub walk_place : place (run SC (start p) G.so_far) t < 8
      walk_place = walk_near code lengths n pairs table p g m counts s walk_on t walk_enabled

      module _ (r : Stepped) (S : HoldsStep code lengths (run SC (start p) G.so_far) t r) where
        pub walk_note : Ranged r.note
        walk_note = walk_ranged code lengths n pairs table p g m counts s walk_on t walk_enabled r.note S.noted

        pub walk_more : (made' counts' : List ℕ) → made' ≡ event_added (source_added made r.note) counts r.note → counts' ≡ count_added counts r.note
            → length made ≡ 576 → length counts ≡ 8 → length schedule ≡ 24 → ((l : ℕ) → get_or counts l 0 < 24) → Progress code lengths p g r.machine made' counts' (set schedule k t) (k + 1)
        walk_more made' counts' em ec sm sc ss room = record {
          so_far = s ++ (t ∷ []);
          size = length-append s (t ∷ []) ∙ ap (λ (x : ℕ). x + 1) G.size;
          most = omega arith;
          kept = λ j h. kept_more j h (ℕ_discrete j k);
          allowed = allowed_join SC (start p) s (t ∷ []) G.allowed (walk_enabled, tt);
          holds = subst (Holds code lengths r.machine) (sym behind) S.holds;
          tabled = subst (λ (x : State). Tabled made' counts' (graph_of x)) (sym behind) made_more;
          rest = G.rest ∙ ap (λ (x : Schedule). s ++ x) (go_on ∙ somebody) ∙ sym (append_assoc s (t ∷ []) _)
              ∙ ap (λ (x : State). (s ++ (t ∷ [])) ++ greedy SC (fits g (location_of p (final_values p g))) (24 - (k + 1)) x) (sym behind);
        }
          where
            behind : run SC (start p) (s ++ (t ∷ [])) ≡ step (run SC (start p) s) t
            behind = run_snoc SC (start p) s t

            kept_more : (j : ℕ) → j < k + 1 → Dec (j ≡ k) → get_or (set schedule k t) j 0 ≡ get_or (s ++ (t ∷ [])) j 0
            kept_more j h (yes q) = ap (λ (x : ℕ). get_or (set schedule k t) x 0) q ∙ get_or-set_same schedule k t 0 (omega arith) ∙ sym (get_d_behind s t j (q ∙ sym G.size))
            kept_more j h (no q) = get_or-set_other schedule k j t 0 q ∙ G.kept j (omega (arith, q)) ∙ sym (get_d_front s (t ∷ []) j (omega (arith, q, G.size)))

            somebody : afterwards (next_of p g s)
                ≡ (t ∷ []) ++ greedy SC (fits g (location_of p (final_values p g))) (24 - (k + 1)) (step (run SC (start p) s) t)
            somebody = ap afterwards (sym choice)

            regular : Regular (run SC (start p) s)
            regular = walk_regular code lengths n pairs table p g m counts s walk_on

            made_more : Tabled made' counts' (graph_of (step (run SC (start p) s) t))
            made_more =
                let y = walk_steps in
                let z = (G.holds.threads t (enabled_small (run SC (start p) s) t walk_enabled)).done in
                subst (λ (x : List ℕ). Tabled x counts' (graph_of (step (run SC (start p) s) t))) (sym em)
                (subst (λ (x : List ℕ). Tabled (event_added (source_added made r.note) counts r.note) x (graph_of (step (run SC (start p) s) t))) (sym ec)
                (made_step made counts (run SC (start p) s) t G.tabled sm sc (enabled_range (run SC (start p) s) t walk_enabled) (enabled_small (run SC (start p) s) t walk_enabled) regular.eight
                walk_place (omega (arith, y.left, y.sixteen, y.bounded)) room r.note S.noted))

-- numbers that the loop keeps
pub few_more : (counts counts' b : List ℕ) (k : ℕ) → length counts ≡ 8 → Ranged b → counts' ≡ count_added counts b → ((l : ℕ) → get_or counts l 0 ≤ k) → (l : ℕ) → get_or counts' l 0 ≤ k + 1
few_more counts counts' b k size R e few l = subst (λ (x : List ℕ). get_or x l 0 ≤ k + 1) (sym e) (go (eqb (get_or b 6 0) 0))
  where
    here : Dec (l ≡ get_or b 2 0) → get_or (set counts (get_or b 2 0) (get_or counts (get_or b 2 0) 0 + 1)) l 0 ≤ k + 1
    here (yes q) =
        let z = ap (λ (x : ℕ). get_or (set counts (get_or b 2 0) (get_or counts (get_or b 2 0) 0 + 1)) x 0) q ∙ get_or-set_same counts (get_or b 2 0) (get_or counts (get_or b 2 0) 0 + 1) 0 (omega (arith, R.location)) in
        omega (arith, few (get_or b 2 0))
    here (no q) = let z = get_or-set_other counts (get_or b 2 0) l (get_or counts (get_or b 2 0) 0 + 1) 0 q in omega (arith, few l)

    go : (x : Bool) → get_or (cond x counts (set counts (get_or b 2 0) (get_or counts (get_or b 2 0) 0 + 1))) l 0 ≤ k + 1
    go true = omega (arith, few l)
    go false = here (ℕ_discrete l (get_or b 2 0))
