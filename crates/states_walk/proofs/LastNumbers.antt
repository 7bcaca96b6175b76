-- The last running thread runs to its end: one schedule is listed behind it, which fails if a step of the run does.
use Prim.Native.Nat.{ℕ, zero, suc, ◌+◌, ◌<◌, ◌≤◌, ◌%◌, ◌^◌}
use mathlib.Core.Path.{◌≡◌, refl, sym, ap, ap₂, subst, ◌∙◌}
use mathlib.Core.Logic.{◌≢◌, inl, inr}
use mathlib.Core.Bool.{Bool, true, false, cond, ◌||◌, true≢false}
use mathlib.Core.Option.{none}
use mathlib.Core.List.{List, [], ◌∷◌, ◌++◌}
use native.Mathlib.Omega.{arith}
use native.Mathlib.Decide.{ℕ_discrete}
use lib.ListN.{length, get_or, set, take}
use Rattle.spec_file.specs.Program.{Program}
use Rattle.spec_file.specs.WellFormed.{WellFormed}
use Rattle.machine_access.specs.declared.thread.ThreadState.{ThreadState}
use Rattle.spec_schedules.specs.Order.{Schedule}
use Rattle.spec_schedules.specs.System.{Allowed, ended}
use Rattle.spec_schedules.proofs.Runs.{run_snoc, not_ended}
use Rattle.spec_sc.specs.State.{State, SC, enabled, start, fails}
use Rattle.spec_sc.specs.Graph.{end_of}
use Rattle.spec_sc.proofs.Lawful.{lawful}
use Rattle.spec_sc.proofs.Steps.{enabled_small}
use Rattle.machine.specs.declared.stepping.Moved.{Moved}
use Rattle.machine.proofs.HeldAsking.{held_ended}
use Rattle.theory_sc.specs.LateSet.{late_set}
use Rattle.theory_sc.specs.Sleepers.{sleepers}
use Rattle.theory_sc.specs.Alone.{Alone}
use Rattle.theory_sc.specs.Search.{given_up, found_behind}
use Rattle.theory_sc.proofs.LastThread.{last_goes_on}
use Rattle.theory_sc.proofs.Search.{behind_end, behind_passed}
use Rattle.search_place.specs.Reached.{machine_of, Reached}
use Rattle.search_place.specs.declared.place.Place.{Place}
use Rattle.search_place.proofs.ReachedStep.{enabled_again}
use Rattle.search_tail.specs.Runner.{RunnerOf, Settled}
use Rattle.search_tail.specs.declared.alone.Runner.{Runner}
use Rattle.search_tail.proofs.RunOut.{Running, Moves, running_start, starts_at, running_row, running_step, steps_to}
use Rattle.theory_states.specs.Numbers.{Numbers, nothing, one, plus, charged, sum_range, numbers}
use Rattle.theory_states.specs.Wrapped.{Wrapped}
use Rattle.theory_states.proofs.Numbers.{by_not, by_live, numbers_ended, numbers_branches}
use Rattle.theory_sc_key.specs.View.{breaks}
use Rattle.theory_sc_key.proofs.View.{breaks_law}
use Rattle.states_walk.specs.Known.{numbers_at, numbers_by}
use Rattle.states_walk.proofs.Numbered.{reached_failed}

-- ---- sums and charges
none_plus : (n : Numbers) → plus nothing n ≡ n
none_plus n = ap₂ (λ (a b : ℕ). record { listed = a; failing = b }) (omega arith) (omega arith)

plus_none : (n : Numbers) → plus n nothing ≡ n
plus_none n = ap₂ (λ (a b : ℕ). record { listed = a; failing = b }) (omega arith) (omega arith)

-- among these only f t is something
sum_only : (f : ℕ → Numbers) (n d t : ℕ) → d ≤ t → t < d + n → ((u : ℕ) → u ≢ t → f u ≡ nothing) → sum_range f n d ≡ f t
unfolding sum_range
sum_only f zero d t l h e = absurd (omega arith)
sum_only f (suc n) d t l h e = go (ℕ_discrete d t) (λ k. sum_only f n (d + 1) t k (omega arith) e)
  where
    rest : (m d : ℕ) → t < d → sum_range f m d ≡ nothing
    rest zero d k = refl
    rest (suc m) d k = ap₂ plus (e d (λ q. omega arith)) (rest m (d + 1) (omega arith))

    go : Dec (d ≡ t) → (d + 1 ≤ t → sum_range f n (d + 1) ≡ f t) → plus (f d) (sum_range f n (d + 1)) ≡ f t
    go (yes q) ih = ap (plus (f d)) (rest n (d + 1) (omega arith)) ∙ plus_none (f d) ∙ ap f q
    go (no q) ih = ap (λ (m : Numbers). plus m (sum_range f n (d + 1))) (e d q) ∙ none_plus (sum_range f n (d + 1)) ∙ ih (omega arith)

charged_twice : (a b : Bool) (n : Numbers) → charged a (charged b n) ≡ charged (a || b) n
charged_twice true b n = refl
charged_twice false b n = refl

or_none : (a : Bool) → a ≡ (a || false)
or_none true = refl
or_none false = refl

or_apart : (a b c : Bool) → ((a || b) || c) ≡ (a || (b || c))
or_apart true b c = refl
or_apart false b c = refl

-- ---- behind a step of the last thread
alone_numbers : (p : Program) → WellFormed p → (v : Schedule) → Allowed SC (start p) v → (t : ℕ) → Alone (end_of p v) t → sleepers (end_of p v) (late_set p v) ≡ 0
    → numbers_at p v ≡ charged (breaks (end_of p v) t) (numbers_at p (v ++ (t ∷ [])))
alone_numbers p w v a t alone z =
    numbers_branches SC 6 (given_up p) breaks lawful v (end_of p v) (not_ended SC lawful (end_of p v) t alone.live)
    ∙ sum_only (numbers_by p v) 6 0 t (omega arith) (omega (arith, enabled_small (end_of p v) t alone.live))
    (λ u n. by_not SC 6 (given_up p) breaks (λ s σ. numbers SC 6 (given_up p) breaks s σ) v (end_of p v) u (alone.others u n))
    ∙ by_live SC 6 (given_up p) breaks (λ s σ. numbers SC 6 (given_up p) breaks s σ) v (end_of p v) t alone.live (last_goes_on p w v a t alone z)
    ∙ ap (λ (τ : State). charged (breaks (end_of p v) t) (numbers SC 6 (given_up p) breaks (v ++ (t ∷ [])) τ)) (sym (run_snoc SC (start p) v t))

-- a runner as it stands, with what had failed before its run
abbrev pub from : Bool → Runner → Runner
from before r = record { thread = r.thread; memory = r.memory; schedule = r.schedule; steps = r.steps; failed = before }

-- thread t behind a prefix that is v with steps of t behind it, of which some failed, or something had failed before, if the runner says so
pub record Ran (code lengths class : List ℕ) (threads groups : ℕ) (x : Place) (p : Program) (v : Schedule) (t : ℕ) (before : Bool) (now : Runner) : Type 0 where
  pub run : Running code lengths class threads groups x p v t (from before now)
  pub fell : Bool
  pub told : now.failed ≡ (before || fell)
  pub fails_by : Settled p v t false → fails (end_of p run.prefix) ≡ (fails (end_of p v) || fell)
  pub counts : Settled p v t false → numbers_at p v ≡ charged fell (numbers_at p run.prefix)

module _ (code lengths class : List ℕ) (threads groups : ℕ) (x : Place) (p : Program) (v : Schedule) (t : ℕ) (before : Bool) where
  pub ran_start : (now : Runner) → before ≡ now.failed → Reached code lengths class threads groups x p v → RunnerOf x t now → Ran code lengths class threads groups x p v t before now
  ran_start now e reached held =
      let own : RunnerOf x t (from before now) = record { thread = held.thread; memory = held.memory; schedule = held.schedule; steps = held.steps } in
      let q = starts_at code lengths class threads groups x p v t (from before now) reached own in record {
        run = running_start code lengths class threads groups x p v t (from before now) reached own;
        fell = false;
        told = sym e ∙ or_none before;
        fails_by = λ s. ap (λ (u : Schedule). fails (end_of p u)) q ∙ or_none (fails (end_of p v));
        counts = λ s. sym (ap (numbers_at p) q);
      }

  module _ (now : Runner) (ran : Ran code lengths class threads groups x p v t before now) (six : t < 6) where
    abbrev r : Runner
    r = from before now

    abbrev w : Schedule
    w = ran.run.prefix

    -- ---- one step more
    module _ (left : now.thread.at < get_or lengths t 0) (size : length now.schedule ≡ 24) (a : Moved) (moves : Moves code lengths now.thread now.memory t a) where
      ok : enabled (end_of p ran.run.prefix) t ≡ true
      ok = enabled_again code lengths class threads groups ran.run.at p w ran.run.reached t six (subst (λ (h : ThreadState). h.at < get_or lengths t 0) (sym ran.run.held.thread) left)

      alone : Settled p v t false → Alone (end_of p ran.run.prefix) t × (sleepers (end_of p ran.run.prefix) (late_set p ran.run.prefix) ≡ 0)
      alone s = go (ran.run.settled s)
        where
          go : Settled p w t false → Alone (end_of p w) t × (sleepers (end_of p w) (late_set p w) ≡ 0)
          go (inl e) = absurd (true≢false (sym e ∙ not_ended SC lawful (end_of p w) t ok))
          go (inr q) = (q.1, q.2)

      -- the runner behind it
      abbrev pub went : Bool → Runner
      went b = record { thread = a.thread; memory = a.memory; schedule = set now.schedule now.steps t; steps = now.steps + 1; failed = b }

      next : Running code lengths class threads groups x p v t (went before)
      next = running_step code lengths class threads groups x p v t r ran.run six left size a moves

      to : next.prefix ≡ ran.run.prefix ++ (t ∷ [])
      unfolding next
      to = steps_to code lengths class threads groups x p v t r ran.run six left size a moves

      -- the step failed exactly if its thread has
      fell_now : a.thread.failed ≡ breaks (end_of p ran.run.prefix) t
      fell_now =
          sym (ap (λ (h : ThreadState). h.failed) next.held.thread)
          ∙ reached_failed p w t code lengths class threads groups next.at (subst (λ (u : Schedule). Reached code lengths class threads groups next.at p u) to next.reached) ok t refl

      pub ran_step : (b : Bool) → b ≡ (now.failed || a.thread.failed) → Ran code lengths class threads groups x p v t before (went b)
      ran_step b e = record {
        run = next;
        fell = ran.fell || breaks (end_of p w) t;
        told = e ∙ ap₂ (λ (c d : Bool). c || d) ran.told fell_now ∙ or_apart before ran.fell (breaks (end_of p w) t);
        fails_by = λ s.
            ap (λ (u : Schedule). fails (end_of p u)) to ∙ ap fails (run_snoc SC (start p) w t)
            ∙ breaks_law p w (end_of p w) (refl, ran.run.reached.allowed) t ok (last_goes_on p ran.run.reached.loaded.well_formed w ran.run.reached.allowed t (alone s).0 (alone s).1)
            ∙ ap (λ (c : Bool). c || breaks (end_of p w) t) (ran.fails_by s) ∙ or_apart (fails (end_of p v)) ran.fell (breaks (end_of p w) t);
        counts = λ s.
            ran.counts s ∙ ap (charged ran.fell) (alone_numbers p ran.run.reached.loaded.well_formed w ran.run.reached.allowed t (alone s).0 (alone s).1)
            ∙ charged_twice ran.fell (breaks (end_of p w) t) (numbers_at p (w ++ (t ∷ [])))
            ∙ ap (λ (u : Schedule). charged (ran.fell || breaks (end_of p w) t) (numbers_at p u)) (sym to);
      }

    -- ---- at its end
    module _ (over : get_or lengths t 0 ≤ now.thread.at) (s : Settled p v t false) where
      run_over : ended SC (end_of p ran.run.prefix) ≡ true
      run_over = go (ran.run.settled s)
        where
          go : Settled p w t false → ended SC (end_of p w) ≡ true
          go (inl e) = e
          go (inr q) =
              absurd (true≢false (sym q.1.live
              ∙ held_ended code lengths (machine_of ran.run.at ran.run.reached.last) (end_of p w) ran.run.reached.holds t six (subst (λ (h : ThreadState). get_or lengths t 0 ≤ h.at) (sym ran.run.held.thread) over)))

      pub ran_numbers : Wrapped (charged before (numbers_at p v)) 1 (cond now.failed 1 0)
      ran_numbers =
          let q = ap (charged before) (ran.counts s ∙ ap (charged ran.fell) (numbers_ended SC 6 (given_up p) breaks lawful w (end_of p w) run_over))
          ∙ charged_twice before ran.fell one ∙ ap (λ (c : Bool). charged c one) (sym ran.told) in
          (ap (λ (m : Numbers). m.listed % 2 ^ 64) (sym q), small now.failed ∙ ap (λ (m : Numbers). m.failing % 2 ^ 64) (sym q))
        where
          small : (c : Bool) → cond c 1 0 ≡ (charged c one).failing % 2 ^ 64
          small true = refl
          small false = refl

      -- the run's schedule is found if something has failed
      pub ran_found : before ≡ fails (end_of p v) → found_behind true p x.steps none v ≡ cond now.failed (take now.steps now.schedule ∷ []) []
      ran_found e = ran.run.found true s ∙ go now.failed (ran.fails_by s ∙ ap (λ (c : Bool). c || ran.fell) (sym e) ∙ sym ran.told)
        where
          go : (c : Bool) → fails (end_of p w) ≡ c → found_behind true p ran.run.at.steps none w ≡ cond c (take now.steps now.schedule ∷ []) []
          go true f = behind_end true p ran.run.at.steps w true run_over f refl ∙ ap (λ (u : Schedule). u ∷ []) (sym (running_row code lengths class threads groups x p v t r ran.run))
          go false f = behind_passed true p ran.run.at.steps w false run_over f refl
