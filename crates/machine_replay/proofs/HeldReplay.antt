-- A schedule carried out byte by byte: what has been done and what is left make the answer.
use Rattle.std.specs.Prelude.{Ok, Err}
use Prim.Native.Nat.{ℕ, suc, ◌+◌, ◌<◌, ◌≤◌}
use native.Mathlib.Omega.{arith}
use mathlib.Core.Path.{◌≡◌, refl, sym, ap, subst, ◌∙◌}
use mathlib.Core.Bool.{true, false}
use mathlib.Core.List.{List, [], ◌∷◌, ◌++◌}
use lib.ListN.{length, get_or, set, take, drop, drop_of_length-le, length-set}
use lib.Seq.{take-suc, take-suc-set, take_all, drop-cons, length-take-le}
use Rattle.spec_file.specs.Program.{Program}
use Rattle.spec_schedules.specs.Order.{Schedule}
use Rattle.spec_schedules.specs.System.{run, ended, Allowed}
use Rattle.spec_schedules.proofs.Runs.{run_snoc, allowed_join, allowed_length}
use Rattle.machine.specs.declared.state.LastWrite.{LastWrite}
use Rattle.machine.specs.declared.state.Machine.{Machine}
use Rattle.machine.specs.declared.stepping.After.{After}
use Rattle.machine.specs.declared.stepping.Stepped.{Stepped}
use Rattle.spec_sc.specs.State.{State, place, step, enabled, SC, start}
use Rattle.graph_writer.specs.Notes.{note, notes, Noted, put_note}
use Rattle.spec_sc.specs.Replay.{replay_from, replay}
use Rattle.machine.specs.Held.{thread_at, last_at, Holds, ReadyThread, Ready, HoldsStep, last_after, note_after, whole, Loaded}
use Rattle.machine_replay.specs.Carried.{verdict_of, HoldsRun}
use Rattle.spec_sc.proofs.Steps.{enabled_range, run_threads}
use Rattle.spec_sc.proofs.Start.{start_threads}
use Rattle.spec_sc.proofs.Lawful.{lawful, start_24}
use Rattle.graph_writer.proofs.NoteGraph.{notes_length, notes_snoc}
use Rattle.spec_sc.proofs.Regular.{place_in, regular_run, regular_start}
use Rattle.spec_sc.proofs.Replay.{nil_full, nil_short, cons_goes, cons_stops}
use Rattle.machine.proofs.HeldStart.{threads_held, short_held}
use Rattle.machine.proofs.HeldAsking.{ready_held}
use Rattle.machine.proofs.HeldStep.{stored_whole}
use Rattle.graph_writer.proofs.HeldNotes.{noted_none, note_put}

-- behind the first k bytes of s
pub record Progress (code lengths : List ℕ) (p : Program) (s : Schedule) (m : Machine) (log made : List ℕ) (k : ℕ) : Type 0 where
  pub within : k ≤ length s
  pub room : length made ≡ 24
  pub schedule : take k made ≡ take k s
  pub allowed : Allowed SC (start p) (take k s)
  pub holds : Holds code lengths m (run SC (start p) (take k s))
  pub noted : Noted log (notes (start p) (take k s))
  pub left : replay p s ≡ replay_from k (run SC (start p) (take k s)) (drop k s)

pub progress_start : (code lengths : List ℕ) (p : Program) (s : Schedule) (m : Machine) (log made : List ℕ) → Holds code lengths m (start p) → length log ≡ 192 → length made ≡ 24
    → Progress code lengths p s m log made 0
unfolding run notes replay
progress_start code lengths p s m log made held n w = record { within = omega arith; room = w; schedule = refl; allowed = tt; holds = held; noted = noted_none log n; left = refl }

module _ (code lengths : List ℕ) (threads : ℕ) (p : Program) (loaded : Loaded code lengths threads p) (s : Schedule) (m : Machine) (log made : List ℕ) (k : ℕ) (done : Progress code lengths p s m log made k) where
  abbrev σ : State
  σ = run SC (start p) (take k s)

  -- ---- a byte is left
  module _ (h : k < length s) where
    abbrev t : ℕ
    t = get_or s k 0

    next : take (k + 1) s ≡ take k s ++ (t ∷ [])
    next = ap (λ (j : ℕ). take j s) (let z : k + 1 ≡ suc k = omega arith in z) ∙ take-suc s k 0 h

    -- the next byte may not step
    pub replay_stops : enabled σ t ≡ false → HoldsRun code lengths p s (record { end = Err (record { number = 20; place = k }); machine = m; log = log; schedule = made; steps = k })
    unfolding verdict_of
    replay_stops e = record {
      counted = done.within;
      schedule = done.schedule;
      allowed = done.allowed;
      holds = done.holds;
      noted = done.noted;
      answer = sym (done.left ∙ ap (replay_from k σ) (drop-cons s k 0 h) ∙ cons_stops k σ t (drop (suc k) s) e);
      all = λ q. cc;
    }

    module _ (ok : enabled σ t ≡ true) where
      replay_ready : Ready lengths m t
      replay_ready = ready_held code lengths m σ done.holds t (short_held code lengths threads p loaded t (omega (arith, enabled_range σ t ok, run_threads (take k s) (start p), start_threads p, threads_held code lengths threads p loaded))) ok

      replay_near : place σ t < 8
      replay_near =
          let r = regular_run (take k s) (start p) (regular_start p loaded.well_formed) done.allowed in
          omega (arith, place_in σ r t, r.eight)

      more_allowed : Allowed SC (start p) (take (k + 1) s)
      more_allowed = subst (Allowed SC (start p)) (sym next) (allowed_join SC (start p) (take k s) (t ∷ []) done.allowed (ok, tt))

      -- there is room for its note
      replay_room : k < 24
      replay_room = omega (arith, allowed_length SC lawful (start p) (take (k + 1) s) more_allowed, length-take-le (k + 1) s (omega arith), start_24 p loaded.well_formed)

      same_length : k ≡ length (notes (start p) (take k s))
      same_length = sym (notes_length (take k s) (start p) ∙ length-take-le k s done.within)

      -- the step stands behind those that were made
      one_more : take (k + 1) (set made k t) ≡ take (k + 1) s
      one_more =
          ap (λ (j : ℕ). take j (set made k t)) (let z : k + 1 ≡ suc k = omega arith in z)
          ∙ take-suc-set made k t (omega (arith, done.room, replay_room)) ∙ ap (λ (l : Schedule). l ++ (t ∷ [])) done.schedule ∙ sym next

      replay_more : (r : Stepped) (trail' : List ℕ) → HoldsStep code lengths σ t r → trail' ≡ put_note log k r.note
          → Progress code lengths p s r.machine trail' (set made k t) (k + 1)
      replay_more r trail' held put =
          let state : run SC (start p) (take (k + 1) s) ≡ step σ t = ap (run SC (start p)) next ∙ run_snoc SC (start p) (take k s) t in
          record {
            within = omega arith;
            room = length-set made k t ∙ done.room;
            schedule = one_more;
            allowed = more_allowed;
            holds = subst (Holds code lengths r.machine) (sym state) held.holds;
            noted = subst (Noted trail') (sym (ap (notes (start p)) next ∙ notes_snoc (start p) (take k s) t))
                (note_put put replay_room (notes (start p) (take k s)) (note σ t) done.noted same_length held.noted);
            left = done.left ∙ ap (replay_from k σ) (drop-cons s k 0 h) ∙ cons_goes k σ t (drop (suc k) s) ok
                ∙ ap (λ (τ : State). replay_from (suc k) τ (drop (suc k) s)) (sym state)
                ∙ ap (λ (j : ℕ). replay_from j (run SC (start p) (take (k + 1) s)) (drop j s)) (let z : suc k ≡ k + 1 = omega arith in z);
          }

      -- the code names its thread by u
      module _ (u : ℕ) (eu : u ≡ t) where
        pub replay_thread : ReadyThread lengths (thread_at m u) t
        replay_thread = subst (λ (v : ℕ). ReadyThread lengths (thread_at m v) t) (sym eu) replay_ready

        pub replay_stored : (a : After) (trail' made' : List ℕ) → made' ≡ set made k t
            → ((n : Machine) (τ : State) → thread_at n t ≡ thread_at m u → n.memory ≡ m.memory → Holds code lengths n τ → enabled τ t ≡ true → place τ t < 8 → HoldsStep code lengths τ t (whole n t t a))
            → (w : LastWrite) → w ≡ last_after t (thread_at m u).done (last_at m a.place) a
            → trail' ≡ put_note log k (note_after t (thread_at m u).done (last_at m a.place) a)
            → Progress code lengths p s (record { threads = set m.threads u a.thread; memory = a.memory; last = set m.last a.place w }) trail' made' (k + 1)
        replay_stored a trail' made' em acts w ew put =
            subst (λ (l : List ℕ). Progress code lengths p s (behind w) trail' l (k + 1)) (sym em)
            (subst (λ (e : LastWrite). Progress code lengths p s (behind e) trail' (set made k t) (k + 1)) (sym ew)
            (replay_more (whole m u t a) trail' (stored_whole code lengths m t u a eu acts σ done.holds ok replay_near) put))
          where
            behind : LastWrite → Machine
            behind e = record { threads = set m.threads u a.thread; memory = a.memory; last = set m.last a.place e }

  -- ---- none is left
  module _ (h : length s ≤ k) where
    finished : replay p s ≡ replay_from k σ []
    finished = done.left ∙ ap (replay_from k σ) (drop_of_length-le s {i = k} h)

    pub replay_whole : ended SC σ ≡ true → HoldsRun code lengths p s (record { end = Ok tt; machine = m; log = log; schedule = made; steps = k })
    unfolding verdict_of
    replay_whole e = record { counted = done.within; schedule = done.schedule; allowed = done.allowed; holds = done.holds; noted = done.noted; answer = sym (finished ∙ nil_full k σ e); all = λ q. take_all k s h }

    pub replay_short : ended SC σ ≡ false → HoldsRun code lengths p s (record { end = Err (record { number = 21; place = k }); machine = m; log = log; schedule = made; steps = k })
    unfolding verdict_of
    replay_short e = record {
      counted = done.within;
      schedule = done.schedule;
      allowed = done.allowed;
      holds = done.holds;
      noted = done.noted;
      answer = sym (finished ∙ nil_short k σ e);
      all = λ q. cc;
    }
