-- The last running thread runs to its end: the prefix grows by its steps, and what is found behind it stays the same.
use Prim.Native.Nat.{ℕ, ◌+◌, ◌^◌, ◌<◌, ◌≤◌}
use mathlib.Core.Path.{◌≡◌, refl, sym, ap, ap₂, subst, ◌∙◌}
use mathlib.Core.Logic.{◌≢◌, ◌⊎◌, inl, inr}
use mathlib.Core.Bool.{Bool, true, false, not, ◌||◌, true≢false}
use mathlib.Core.Option.{none}
use mathlib.Core.List.{List, [], ◌∷◌, ◌++◌}
use native.Mathlib.Omega.{arith}
use native.Mathlib.Decide.{dec_lt, ℕ_discrete}
use lib.ListN.{length, get_or, set, take}
use lib.Seq.{get_or-set_same, get_or-set_other}
use Rattle.spec_file.specs.Program.{Program}
use Rattle.machine_access.specs.declared.thread.ThreadState.{ThreadState}
use Rattle.spec_schedules.specs.Order.{Schedule}
use Rattle.spec_schedules.specs.System.{ended}
use Rattle.spec_schedules.proofs.Runs.{run_snoc, not_ended}
use Rattle.spec_sc.specs.State.{State, SC, place, enabled, start, fails}
use Rattle.spec_sc.specs.Graph.{end_of}
use Rattle.spec_sc.proofs.Lawful.{lawful}
use Rattle.spec_sc.proofs.Halted.{stays_failed}
use Rattle.machine.specs.Held.{idle, thread_at, Holds, ReadyThread, HoldsMoved}
use Rattle.machine.specs.declared.state.Machine.{Machine}
use Rattle.machine.specs.declared.stepping.Moved.{Moved}
use Rattle.machine.proofs.HeldAsking.{enabled_none, held_ended, fails_by_lem, fails_yes, fails_not}
use Rattle.spec_model.specs.Model.{failing}
use Rattle.spec_sc.specs.Sequential.{sc}
use Rattle.spec_schedules.specs.Sets.{has}
use Rattle.theory_sc.specs.Sets.{set_of}
use Rattle.theory_sc.specs.LateSet.{late_set}
use Rattle.theory_sc.specs.Sleepers.{sleepers}
use Rattle.theory_sc.specs.ReadWords.{words_of}
use Rattle.theory_sc.specs.Alone.{Alone}
use Rattle.theory_sc.specs.Search.{found_behind}
use Rattle.theory_sc.proofs.Sets.{has_own, has_own_only}
use Rattle.theory_sc.proofs.LastThread.{none_asleep, last_apart, alone_more}
use Rattle.theory_sc.proofs.Search.{behind_end, behind_passed}
use Rattle.search_place.specs.Reached.{machine_of, Reached}
use Rattle.search_place.specs.declared.place.Place.{Place}
use Rattle.search_place.proofs.ReachedStep.{reached_most, reached_place, reached_live, reached_ready, reached_room, reached_more, enabled_again}
use Rattle.listing_cursor.specs.Bounds.{bound_at}
use Rattle.search_tail.specs.Runner.{RunnerOf, Settled}
use Rattle.search_tail.specs.declared.alone.Runner.{Runner}
use Rattle.search_tail.proofs.BoundEnd.{bound_met, bound_apart}

-- r holds thread t behind a prefix that is v with steps of t behind it
pub record Running (code lengths class : List ℕ) (threads groups : ℕ) (x : Place) (p : Program) (v : Schedule) (t : ℕ) (r : Runner) : Type 0 where
  pub at : Place
  pub prefix : Schedule
  pub reached : Reached code lengths class threads groups at p prefix
  pub held : RunnerOf at t r
  pub others : (u : ℕ) → u ≢ t → get_or at.threads u idle ≡ get_or x.threads u idle
  pub failed : fails (end_of p v) ≡ true → fails (end_of p prefix) ≡ true
  pub settled : Settled p v t false → Settled p prefix t false
  pub found : (failures : Bool) → Settled p v t false → found_behind failures p x.steps none v ≡ found_behind failures p at.steps none prefix

-- what a step of lean_step's contract says
abbrev pub Moves : (code lengths : List ℕ) (k : ThreadState) (memory : List ℕ) (t : ℕ) (a : Moved) → Type 0
Moves code lengths k memory t a =
    (m : Machine) (σ : State) → thread_at m t ≡ k → m.memory ≡ memory → Holds code lengths m σ → enabled σ t ≡ true → place σ t < 8 → HoldsMoved code lengths m σ t a

-- r behind such a step
abbrev pub stepped : Runner → ℕ → Moved → Runner
stepped r t a = record { thread = a.thread; memory = a.memory; schedule = set r.schedule r.steps t; steps = r.steps + 1; failed = r.failed }

module _ (code lengths class : List ℕ) (threads groups : ℕ) (x : Place) (p : Program) (v : Schedule) (t : ℕ) where
  pub running_start : (r : Runner) → Reached code lengths class threads groups x p v → RunnerOf x t r → Running code lengths class threads groups x p v t r
  running_start r reached held = record {
    at = x;
    prefix = v;
    reached = reached;
    held = held;
    others = λ u n. refl;
    failed = λ e. e;
    settled = λ s. s;
    found = λ failures s. refl;
  }

  pub starts_at : (r : Runner) (reached : Reached code lengths class threads groups x p v) (held : RunnerOf x t r) → (running_start r reached held).prefix ≡ v
  unfolding running_start
  starts_at r reached held = refl

  -- ---- along the run
  module _ (r : Runner) (run : Running code lengths class threads groups x p v t r) where
    abbrev y : Place
    y = run.at

    abbrev w : Schedule
    w = run.prefix

    pub running_most : r.steps ≤ 24
    running_most = omega (arith, run.held.steps, reached_most code lengths class threads groups y p w run.reached)

    -- the runner's steps are the prefix
    pub running_row : take r.steps r.schedule ≡ run.prefix
    running_row = ap₂ (λ (n : ℕ) (l : List ℕ). take n l) (sym run.held.steps) (sym run.held.schedule) ∙ run.reached.schedule

    -- an instruction is left to it
    module _ (six : t < 6) (left : r.thread.at < get_or lengths t 0) where
      ok : enabled (end_of p run.prefix) t ≡ true
      ok = enabled_again code lengths class threads groups y p w run.reached t six (subst (λ (k : ThreadState). k.at < get_or lengths t 0) (sym run.held.thread) left)

      pub running_ready : ReadyThread lengths r.thread t
      running_ready = subst (λ (k : ThreadState). ReadyThread lengths k t) run.held.thread (reached_ready code lengths class threads groups y p w run.reached t ok)

      pub running_room : r.steps < 24
      running_room = omega (arith, run.held.steps, reached_room code lengths class threads groups y p w run.reached t ok)

      -- the step of the runner's thread
      module _ (size : length r.schedule ≡ 24) (a : Moved) (moves : Moves code lengths r.thread r.memory t a) where
        moved : HoldsMoved code lengths (machine_of run.at run.reached.last) (end_of p run.prefix) t a
        moved =
            moves (machine_of y run.reached.last) (end_of p w) run.held.thread run.held.memory run.reached.holds ok
            (reached_place code lengths class threads groups y p w run.reached t)

        abbrev w' : Schedule
        w' = w ++ (t ∷ [])

        abbrev y' : Place
        y' = record {
          threads = set y.threads t a.thread;
          memory = a.memory;
          words = (words_of p w').words;
          schedule = set y.schedule y.steps t;
          stamps = (words_of p w').stamps;
          steps = y.steps + 1;
          late = late_set p w';
          live = set_of (enabled (end_of p w')) 6;
        }

        alone : Settled p run.prefix t false → Alone (end_of p run.prefix) t × (sleepers (end_of p run.prefix) (late_set p run.prefix) ≡ 0)
        alone (inl e) = absurd (true≢false (sym e ∙ not_ended SC lawful (end_of p w) t ok))
        alone (inr s) = (s.1, s.2)

        settled' : Settled p run.prefix t false → Settled p (run.prefix ++ (t ∷ [])) t false
        settled' s = go (alone s).0 (alone_more p run.reached.loaded.well_formed w run.reached.allowed t (alone s).0)
          where
            go : Alone (end_of p w) t → (ended SC (end_of p w') ≡ true) ⊎ Alone (end_of p w') t → Settled p w' t false
            go one (inl e) = inl e
            go one (inr k) = inr (refl, k, none_asleep p run.reached.loaded.well_formed w run.reached.allowed t one)

        pub running_step : Running code lengths class threads groups x p v t (stepped r t a)
        running_step = record {
          at = y';
          prefix = w';
          reached =
              reached_more code lengths class threads groups y p w run.reached t ok a moved y' (ap (λ (l : List ℕ). length l) run.held.schedule ∙ size) refl refl refl refl refl refl refl refl;
          held = record {
            thread = get_or-set_same y.threads t a.thread idle (omega (arith, six, run.reached.holds.sizes.0));
            memory = refl;
            schedule = ap₂ (λ (l : List ℕ) (n : ℕ). set l n t) run.held.schedule run.held.steps;
            steps = ap (λ (n : ℕ). n + 1) run.held.steps;
          };
          others = λ u n. get_or-set_other y.threads t u a.thread idle n ∙ run.others u n;
          failed = λ e. ap fails (run_snoc SC (start p) w t) ∙ stays_failed p w t run.reached.allowed ok (run.failed e);
          settled = λ s. settled' (run.settled s);
          found = λ failures s.
              run.found failures s
              ∙ last_apart p run.reached.loaded.well_formed w run.reached.allowed t (alone (run.settled s)).0 failures y.steps
              (reached_room code lengths class threads groups y p w run.reached t ok) (alone (run.settled s)).1;
        }

        pub steps_to : running_step.prefix ≡ run.prefix ++ (t ∷ [])
        unfolding running_step
        steps_to = refl

    -- ---- at its end
    module _ (six : t < 6) (over : get_or lengths t 0 ≤ r.thread.at) (reached : Reached code lengths class threads groups x p v) where
      run_fails : fails (end_of p run.prefix) ≡ (r.thread.failed || fails (end_of p v))
      run_fails = go (fails (end_of p v)) refl r.thread.failed refl
        where
          before : (u : ℕ) → u < 6 → fails (end_of p v) ≡ false → (b : Bool) → (get_or x.threads u idle).failed ≡ b → (get_or x.threads u idle).failed ≡ false
          before u h e true k = absurd (true≢false (sym (sym (fails_by_lem reached.holds) ∙ fails_yes (machine_of x reached.last) u h k) ∙ e))
          before u h e false k = k

          each : fails (end_of p v) ≡ false → r.thread.failed ≡ false → (u : ℕ) → u < 6 → Dec (u ≡ t) → (get_or y.threads u idle).failed ≡ false
          each e q u h (yes i) = ap (λ (j : ℕ). (get_or y.threads j idle).failed) i ∙ ap (λ (k : ThreadState). k.failed) run.held.thread ∙ q
          each e q u h (no n) = ap (λ (k : ThreadState). k.failed) (run.others u n) ∙ before u h e (get_or x.threads u idle).failed refl

          go : (c : Bool) → fails (end_of p v) ≡ c → (b : Bool) → r.thread.failed ≡ b → fails (end_of p w) ≡ (b || c)
          go true e true q = run.failed e
          go true e false q = run.failed e
          go false e true q = sym (fails_by_lem run.reached.holds) ∙ fails_yes (machine_of y run.reached.last) t six (ap (λ (k : ThreadState). k.failed) run.held.thread ∙ q)
          go false e false q = sym (fails_by_lem run.reached.holds) ∙ fails_not (machine_of y run.reached.last) (λ u h. each e q u h (ℕ_discrete u t))

      module _ (f : Bool) (ef : f ≡ (r.thread.failed || r.failed)) (before : r.failed ≡ fails (end_of p v)) where
        pub run_failing : failing sc p run.prefix ≡ f
        run_failing = run_fails ∙ ap (λ (b : Bool). r.thread.failed || b) (sym before) ∙ sym ef

        module _ (settled : Settled p v t false) where
          run_over : ended SC (end_of p run.prefix) ≡ true
          run_over = go (run.settled settled)
            where
              go : Settled p w t false → ended SC (end_of p w) ≡ true
              go (inl e) = e
              go (inr s) =
                  absurd (true≢false (sym s.1.live
                  ∙ held_ended code lengths (machine_of y run.reached.last) (end_of p w) run.reached.holds t six (subst (λ (k : ThreadState). get_or lengths t 0 ≤ k.at) (sym run.held.thread) over)))

          -- the full schedule is found, unless only failing ones are wanted and it does not fail
          pub run_found : (failures : Bool) → (not failures || f) ≡ true → found_behind failures p x.steps none v ≡ run.prefix ∷ []
          run_found failures m = run.found failures settled ∙ behind_end failures p y.steps w f run_over run_failing m

          pub run_passed : (failures : Bool) → (not failures || f) ≡ false → found_behind failures p x.steps none v ≡ []
          run_passed failures m = run.found failures settled ∙ behind_passed failures p y.steps w f run_over run_failing m

-- ---- where one alone is in the set of those that have not ended
module _ (code lengths class : List ℕ) (threads groups : ℕ) (x : Place) (p : Program) (v : Schedule) (at : Reached code lengths class threads groups x p v) (t : ℕ) where
  pub alone_by : t < 6 → x.live ≡ 2 ^ t → Alone (end_of p v) t
  alone_by h e = record {
    live = sym (reached_live code lengths class threads groups x p v at t h) ∙ ap (λ (s : ℕ). has s t) e ∙ has_own t;
    others = λ u n. other u n (dec_lt u 6);
  }
    where
      other : (u : ℕ) → u ≢ t → Dec (u < 6) → enabled (end_of p v) u ≡ false
      other u n (yes k) = sym (reached_live code lengths class threads groups x p v at u k) ∙ ap (λ (s : ℕ). has s u) e ∙ has_own_only t u n
      other u n (no k) = enabled_none (end_of p v) u (omega (arith, k))

-- ---- along the bound only where all have ended
module _ (failures : Bool) (p : Program) (steps : ℕ) (v : Schedule) (bound : List ℕ) (tight : Bool) where
  pub settled_tight : (t : ℕ) → Settled p v t tight → tight ≡ true → found_behind failures p steps (bound_at tight bound steps) v ≡ []
  settled_tight t s e = ap (λ (b : Bool). found_behind failures p steps (bound_at b bound steps) v) e ∙ bound_met failures p steps v bound (go s)
    where
      go : Settled p v t tight → ended SC (end_of p v) ≡ true
      go (inl q) = q
      go (inr q) = absurd (true≢false (sym e ∙ q.0))

  pub found_apart : tight ≡ false → found_behind failures p steps (bound_at tight bound steps) v ≡ found_behind failures p steps none v
  found_apart e = ap (λ (b : Bool). found_behind failures p steps (bound_at b bound steps) v) e ∙ bound_apart failures p steps v bound
