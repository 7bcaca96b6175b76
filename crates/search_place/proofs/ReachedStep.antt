-- A prefix as the search holds it: how it starts, how a step leads on, and who may step behind it.
use Prim.Native.Nat.{ℕ, ◌+◌, ◌-◌, ◌%◌, ◌^◌, ◌<◌, ◌≤◌}
use mathlib.Core.Path.{◌≡◌, refl, sym, ap, ap₂, subst, ◌∙◌}
use mathlib.Core.Logic.{◌≢◌}
use mathlib.Core.Bool.{Bool, true, false, cond, true≢false}
use mathlib.Core.List.{List, [], ◌∷◌, ◌++◌}
use native.Mathlib.Omega.{arith}
use native.Mathlib.Decide.{dec_lt}
use native.Mathlib.Nat.{mod-eq_of_lt}
use native.Mathlib.Numerals.{add-one}
use lib.Dec.{ltb}
use lib.ListN.{length, get_or, set, take, length-append}
use lib.Seq.{take-suc-set, get_or-set_same}
use Rattle.spec_file.specs.Program.{Program}
use Rattle.machine_access.specs.declared.thread.ThreadState.{ThreadState}
use Rattle.spec_schedules.specs.Order.{Schedule}
use Rattle.spec_schedules.specs.System.{ended, Allowed}
use Rattle.spec_schedules.proofs.Runs.{run_nil, run_snoc, allowed_join, allowed_length, ended_of, not_ended}
use Rattle.spec_sc.specs.State.{State, place, step, enabled, SC, start}
use Rattle.spec_sc.specs.Graph.{end_of}
use Rattle.spec_sc.specs.Actions.{Action, action, writes}
use Rattle.machine.specs.Held.{idle, thread_at, Holds, Loaded, ReadyThread, HoldsMoved}
use Rattle.machine.specs.declared.state.Machine.{Machine}
use Rattle.machine.specs.declared.stepping.Moved.{Moved}
use Rattle.spec_sc.proofs.Steps.{enabled_small, enabled_range, run_threads}
use Rattle.spec_sc.proofs.Start.{start_threads}
use Rattle.spec_sc.proofs.Lawful.{lawful, start_24}
use Rattle.spec_sc.proofs.Regular.{place_in, regular_run, regular_start}
use Rattle.spec_sc.proofs.FreeSteps.{action_thread, action_location, action_wrote}
use Rattle.machine.proofs.HeldStart.{threads_held, short_held}
use Rattle.machine.proofs.HeldAsking.{enabled_none, held_enabled, enabled_held, ready_held}
use Rattle.machine.proofs.HeldNext.{held_left}
use Rattle.spec_schedules.specs.Sets.{has}
use Rattle.theory_sc.specs.Sets.{set_of}
use Rattle.theory_sc.specs.LateSet.{late_behind, late_set}
use Rattle.theory_sc.specs.ReadWords.{Words, word_behind, words_behind, no_words, words_of}
use Rattle.theory_sc.proofs.Sets.{has_none, set_has, set_none, set_at_least}
use Rattle.theory_sc.proofs.LateSet.{late_start, late_more}
use Rattle.theory_sc.proofs.TwinWords.{words_start, words_more}
use Rattle.search_place.specs.ClassGroups.{Lined}
use Rattle.search_place.specs.Reached.{machine_of, Reached}
use Rattle.search_place.specs.declared.place.Place.{Place}
use Rattle.search_place.proofs.Bits.{stamp_stored}
use Rattle.search_place.proofs.LiveSet.{live_more}

-- a thread that has not ended has at most sixteen instructions
abbrev pub Short : List ℕ → List ThreadState → Type 0
Short lengths ts = (u : ℕ) → u < 6 → (get_or ts u idle).at < get_or lengths u 0 → get_or lengths u 0 ≤ 16

-- the place r behind x and a step of thread t that gave back a
pub record Carried (code lengths : List ℕ) (x : Place) (t : ℕ) (a : Moved) (r : Place) : Type 0 where
  pub threads : r.threads ≡ set x.threads t a.thread
  pub memory : r.memory ≡ a.memory
  pub schedule : r.schedule ≡ set x.schedule x.steps t
  pub steps : r.steps ≡ x.steps + 1
  pub late : (m : Machine) (σ : State) → m.threads ≡ set x.threads t a.thread → m.memory ≡ a.memory → Holds code lengths m σ
      → r.late ≡ late_behind σ x.late (record { thread = t; location = a.location; wrote = a.wrote })
  pub live : r.live ≡ cond (ltb a.thread.at (get_or lengths t 0)) x.live (x.live - 2 ^ t)
  pub stamps : r.stamps ≡ set x.stamps (a.location % 8) (cond a.wrote (x.steps + 1) (get_or x.stamps (a.location % 8) 0))
  pub words : r.words ≡ set x.words t (word_behind t (get_or x.words t 0) (get_or x.stamps (a.location % 8) 0) a.wrote)

-- the parts of an action
same_parts : (a b : Action) → a.thread ≡ b.thread → a.location ≡ b.location → a.wrote ≡ b.wrote → a ≡ b
same_parts a b e f g = λ i. record { thread = e i; location = f i; wrote = g i }

-- ---- before the first step
pub reached_start : (code lengths class : List ℕ) (threads groups : ℕ) (m : Machine) (schedule : List ℕ) (live : ℕ) (p : Program)
    → Loaded code lengths threads p → Lined class groups p → Holds code lengths m (start p) → live ≡ set_of (enabled (start p)) 6
    → Reached code lengths class threads groups
    (record { threads = m.threads; memory = m.memory; words = 0 ∷ 0 ∷ 0 ∷ 0 ∷ 0 ∷ 0 ∷ []; schedule = schedule; stamps = 0 ∷ 0 ∷ 0 ∷ 0 ∷ 0 ∷ 0 ∷ 0 ∷ 0 ∷ []; steps = 0; late = 0; live = live }) p []
unfolding no_words
reached_start code lengths class threads groups m schedule live p loaded lines held all = record {
  loaded = loaded;
  lines = lines;
  allowed = tt;
  last = m.last;
  holds = subst (Holds code lengths m) (sym (run_nil SC (start p))) held;
  counted = refl;
  schedule = refl;
  late = sym (late_start p);
  live = all ∙ ap (λ (σ : State). set_of (enabled σ) 6) (sym (run_nil SC (start p)));
  stamps = ap (λ (w : Words). w.stamps) (sym (words_start p));
  words = ap (λ (w : Words). w.words) (sym (words_start p));
}

-- ---- who may step
-- a thread that has not ended exists, so it has at most sixteen instructions
pub held_short : (code lengths : List ℕ) (threads : ℕ) (p : Program) → Loaded code lengths threads p → (v : Schedule) (m : Machine) → Holds code lengths m (end_of p v) → Short lengths m.threads
held_short code lengths threads p loaded v m held u h l =
    let ok = held_enabled code lengths m (end_of p v) held u h l in
    short_held code lengths threads p loaded u
    (omega (arith, enabled_range (end_of p v) u ok, run_threads v (start p), start_threads p, threads_held code lengths threads p loaded))

module _ (code lengths class : List ℕ) (threads groups : ℕ) (x : Place) (p : Program) (v : Schedule) (at : Reached code lengths class threads groups x p v) where
  abbrev σ : State
  σ = end_of p v

  abbrev own : Machine
  own = machine_of x at.last

  -- there are at most 24 steps
  pub reached_most : x.steps ≤ 24
  reached_most = omega (arith, allowed_length SC lawful (start p) v at.allowed, at.counted, start_24 p at.loaded.well_formed)

  -- an access goes to one of eight locations
  pub reached_place : (t : ℕ) → place (end_of p v) t < 8
  reached_place t =
      let r = regular_run v (start p) (regular_start p at.loaded.well_formed) at.allowed in
      omega (arith, place_in σ r t, r.eight)

  pub reached_short : Short lengths x.threads
  reached_short = held_short code lengths threads p at.loaded v own at.holds

  -- the set of those that have not ended tells who may step, and whether all have ended
  pub reached_live : (t : ℕ) → t < 6 → has x.live t ≡ enabled (end_of p v) t
  reached_live t h = ap (λ (s : ℕ). has s t) at.live ∙ set_has (enabled σ) 6 t h

  pub reached_ended : x.live ≡ 0 → ended SC (end_of p v) ≡ true
  reached_ended e = ended_of SC σ (λ t. go t (dec_lt t 6))
    where
      go : (t : ℕ) → Dec (t < 6) → enabled (end_of p v) t ≡ false
      go t (yes h) = sym (reached_live t h) ∙ ap (λ (s : ℕ). has s t) e ∙ has_none t
      go t (no h) = enabled_none σ t (omega (arith, h))

  pub reached_going : x.live ≢ 0 → ended SC (end_of p v) ≡ false
  reached_going ne = go (ended SC (end_of p v)) refl
    where
      none : ended SC (end_of p v) ≡ true → (t : ℕ) (b : Bool) → enabled (end_of p v) t ≡ b → enabled (end_of p v) t ≡ false
      none e t true q = absurd (true≢false (sym e ∙ not_ended SC lawful (end_of p v) t q))
      none e t false q = q

      go : (b : Bool) → ended SC (end_of p v) ≡ b → ended SC (end_of p v) ≡ false
      go true e = absurd (ne (at.live ∙ set_none (enabled (end_of p v)) 6 (λ t h. none e t (enabled (end_of p v) t) refl)))
      go false e = e

  module _ (t : ℕ) (ok : enabled (end_of p v) t ≡ true) where
    pub reached_ready : ReadyThread lengths (get_or x.threads t idle) t
    reached_ready = ready_held code lengths own σ at.holds t (reached_short t (enabled_small σ t ok) (held_left code lengths own σ t at.holds ok)) ok

    -- the bit of a thread that may step is in the set
    pub reached_bit : 2 ^ t ≤ x.live
    reached_bit = omega (arith, at.live, set_at_least (enabled σ) 6 t (enabled_small σ t ok) ok)

    more_allowed : Allowed SC (start p) (v ++ (t ∷ []))
    more_allowed = allowed_join SC (start p) v (t ∷ []) at.allowed (ok, tt)

    -- there is room for its step
    pub reached_room : x.steps < 24
    reached_room =
        let n = allowed_length SC lawful (start p) (v ++ (t ∷ [])) more_allowed in
        omega (arith, n, length-append v (t ∷ []), at.counted, start_24 p at.loaded.well_formed)

    -- thread t's step, as the code asks for it by the number u
    pub moved_by : (u : ℕ) → u ≡ t → (a : Moved)
        → ((m : Machine) (τ : State) → thread_at m t ≡ get_or x.threads u idle → m.memory ≡ x.memory → Holds code lengths m τ → enabled τ t ≡ true → place τ t < 8 → HoldsMoved code lengths m τ t a)
        → HoldsMoved code lengths (machine_of x at.last) (end_of p v) t a
    moved_by u eu a acts = acts own σ (ap (λ (i : ℕ). get_or x.threads i idle) (sym eu)) refl at.holds ok (reached_place t)

    -- ---- behind its step, which gave back a
    module _ (a : Moved) (moved : HoldsMoved code lengths (machine_of x at.last) (end_of p v) t a) where
      abbrev next : Machine
      next = record { threads = set x.threads t a.thread; memory = a.memory; last = moved.last }

      next_held : Holds code lengths (record { threads = set x.threads t a.thread; memory = a.memory; last = moved.last }) (end_of p (v ++ (t ∷ [])))
      next_held = subst (Holds code lengths next) (sym (run_snoc SC (start p) v t)) moved.holds

      pub next_short : Short lengths (set x.threads t a.thread)
      next_short = held_short code lengths threads p at.loaded (v ++ (t ∷ [])) next next_held

      near : a.location % 8 ≡ place σ t
      near = ap (λ (l : ℕ). l % 8) moved.location ∙ mod-eq_of_lt (reached_place t)

      did : record { thread = t; location = a.location; wrote = a.wrote } ≡ action σ t
      did = same_parts (record { thread = t; location = a.location; wrote = a.wrote }) (action σ t) (sym (action_thread σ t)) (moved.location ∙ sym (action_location σ t)) (moved.wrote ∙ sym (action_wrote σ t))

      count : x.steps + 1 ≡ length v + 1
      count = omega (arith, at.counted)

      -- whether its thread goes on
      goes : ltb a.thread.at (get_or lengths t 0) ≡ enabled (step σ t) t
      goes =
          let six = enabled_small σ t ok in
          ap (λ (k : ThreadState). ltb k.at (get_or lengths t 0)) (sym (get_or-set_same x.threads t a.thread idle (omega (arith, six, at.holds.sizes.0))))
          ∙ enabled_held code lengths next (step σ t) moved.holds t six

      -- a place that holds the step, and what the rules carry
      pub reached_more : (r : Place) → length x.schedule ≡ 24
          → r.threads ≡ set x.threads t a.thread → r.memory ≡ a.memory → r.schedule ≡ set x.schedule x.steps t → r.steps ≡ x.steps + 1
          → r.late ≡ late_set p (v ++ (t ∷ [])) → r.live ≡ set_of (enabled (end_of p (v ++ (t ∷ [])))) 6
          → r.stamps ≡ (words_of p (v ++ (t ∷ []))).stamps → r.words ≡ (words_of p (v ++ (t ∷ []))).words
          → Reached code lengths class threads groups r p (v ++ (t ∷ []))
      reached_more r size et em es en late live stamps words = record {
        loaded = at.loaded;
        lines = at.lines;
        allowed = more_allowed;
        last = moved.last;
        holds =
            subst (λ (ts : List ThreadState). Holds code lengths (record { threads = ts; memory = r.memory; last = moved.last }) (end_of p (v ++ (t ∷ [])))) (sym et)
            (subst (λ (vs : List ℕ). Holds code lengths (record { threads = set x.threads t a.thread; memory = vs; last = moved.last }) (end_of p (v ++ (t ∷ [])))) (sym em) next_held);
        counted = omega (arith, length-append v (t ∷ []), at.counted, en);
        schedule =
            ap₂ (λ (n : ℕ) (l : List ℕ). take n l) (en ∙ add-one x.steps) es
            ∙ take-suc-set x.schedule x.steps t (omega (arith, size, reached_room)) ∙ ap (λ (l : List ℕ). l ++ (t ∷ [])) at.schedule;
        late = late;
        live = live;
        stamps = stamps;
        words = words;
      }

      pub reached_next : (r : Place) → length x.schedule ≡ 24 → Carried code lengths x t a r → Reached code lengths class threads groups r p (v ++ (t ∷ []))
      unfolding words_behind
      reached_next r size c =
          reached_more r size c.threads c.memory c.schedule c.steps
          (c.late next (step σ t) refl refl moved.holds ∙ ap₂ (λ (s : ℕ) (a : Action). late_behind (step σ t) s a) at.late did ∙ sym (late_more p v t ok))
          (c.live ∙ ap₂ (λ (b : Bool) (s : ℕ). cond b s (s - 2 ^ t)) goes at.live ∙ sym (live_more σ t ok)
          ∙ ap (λ (τ : State). set_of (enabled τ) 6) (sym (run_snoc SC (start p) v t)))
          (c.stamps
          ∙ ap₂ (λ (l : ℕ) (w : Bool). set x.stamps l (cond w (x.steps + 1) (get_or x.stamps l 0))) near moved.wrote
          ∙ ap₂ (λ (s : List ℕ) (n : ℕ). set s (place σ t) (cond (writes σ t) n (get_or s (place σ t) 0))) at.stamps count
          ∙ stamp_stored (words_of p v).stamps (place σ t) (length v + 1) (writes σ t)
          ∙ ap (λ (w : Words). w.stamps) (sym (words_more p v t)))
          (c.words
          ∙ ap₂ (λ (l : ℕ) (w : Bool). set x.words t (word_behind t (get_or x.words t 0) (get_or x.stamps l 0) w)) near moved.wrote
          ∙ ap₂ (λ (s z : List ℕ). set z t (word_behind t (get_or z t 0) (get_or s (place σ t) 0) (writes σ t))) at.stamps at.words
          ∙ ap (λ (w : Words). w.words) (sym (words_more p v t)))

  -- where not all have ended there is room for a step
  pub reached_open : ended SC (end_of p v) ≡ false → x.steps < 24
  reached_open e = go (dec_lt x.steps 24)
    where
      none : 24 ≤ x.steps → (t : ℕ) (b : Bool) → enabled (end_of p v) t ≡ b → enabled (end_of p v) t ≡ false
      none h t true q = absurd (omega (arith, h, reached_room t q))
      none h t false q = q

      go : Dec (x.steps < 24) → x.steps < 24
      go (yes h) = h
      go (no h) = absurd (true≢false (sym (ended_of SC σ (λ t. none (omega (arith, h)) t (enabled (end_of p v) t) refl)) ∙ e))

  -- a place at which t has an instruction left, whatever prefix led to it
  pub enabled_again : (t : ℕ) → t < 6 → (get_or x.threads t idle).at < get_or lengths t 0 → enabled (end_of p v) t ≡ true
  enabled_again t h l = held_enabled code lengths own σ at.holds t h l

  pub enabled_left : (t : ℕ) → enabled (end_of p v) t ≡ true → (get_or x.threads t idle).at < get_or lengths t 0
  enabled_left t ok = held_left code lengths own σ t at.holds ok
