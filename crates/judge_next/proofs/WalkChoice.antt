-- The next step of the walk: what the tables and the machine say of each thread.
use Prim.Native.Nat.{ℕ, zero, suc, ◌+◌, ◌<◌, ◌≤◌}
use mathlib.Core.Path.{◌≡◌, refl, sym, ap, subst, ◌∙◌}
use mathlib.Core.Logic.{◌≢◌}
use mathlib.Core.Bool.{Bool, true, false}
use mathlib.Core.Option.{none, some}
use mathlib.Core.List.{List, [], ◌∷◌, Memᴰ}
use native.Mathlib.Omega.{arith}
use native.Mathlib.Decide.{ℕ_discrete}
use lib.ListN.{length, get_or}
use Rattle.spec_file.specs.Program.{Program}
use Rattle.spec_schedules.specs.Lists.{find, range}
use Rattle.spec_schedules.specs.Order.{Schedule}
use Rattle.spec_schedules.specs.System.{run}
use Rattle.spec_schedules.proofs.Lists.{find_yes, find_no}
use Rattle.machine.specs.declared.state.Machine.{Machine}
use Rattle.spec_sc.specs.State.{Event, initial_write, Thread, State, no_thread, thread_of, cell_of, latest, place, enabled, SC, start}
use Rattle.spec_sc.specs.Graph.{Graph}
use Rattle.graph_writer.specs.Notes.{note, note_bytes}
use Rattle.machine.specs.Held.{Ready}
use Rattle.spec_sc.proofs.Steps.{missing, enabled_small, enabled_range, run_threads}
use Rattle.spec_sc.proofs.Start.{start_threads}
use Rattle.spec_sc.proofs.Regular.{Regular, regular_run, regular_start}
use Rattle.machine.proofs.HeldAsking.{ready_held}
use Rattle.machine.proofs.HeldStart.{threads_held, short_held}
use Rattle.spec_judge.specs.Consistent.{location_of}
use Rattle.spec_judge.proofs.RoundValues.{final_values}
use Rattle.spec_judge.proofs.Walk.{fits}
use Rattle.judge_next.specs.HeldWalk.{Drawn, Ordering, Ranged, NoteOf, Walking, next_of}
use Rattle.spec_judge.proofs.Readable.{Readable}
use Rattle.spec_judge.proofs.Parsed.{read_readable}
use Rattle.judge_values.proofs.HeldRoundLoop.{six_held, near_held}

-- ---- the first of the numbers from a on
first_at : (f : ℕ → Bool) (n a t : ℕ) → ((u : ℕ) → a ≤ u → u < t → f u ≡ false) → a ≤ t → t < a + n → f t ≡ true → find f (range a n) ≡ some t
unfolding range
first_at f zero a t before h k e = absurd (omega arith)
first_at f (suc n) a t before h k e = go (ℕ_discrete a t) (λ q x. first_at f n (suc a) t (λ u y z. before u (omega arith) z) x (omega arith) e)
  where
    go : Dec (a ≡ t) → (a ≢ t → suc a ≤ t → find f (range (suc a) n) ≡ some t) → find f (a ∷ range (suc a) n) ≡ some t
    go (yes q) ih = find_yes f a (range (suc a) n) (ap f q ∙ e) ∙ ap some q
    go (no q) ih = find_no f a (range (suc a) n) (before a (omega arith) (omega (arith, q))) ∙ ih q (omega (arith, q))

first_none : (f : ℕ → Bool) (n a : ℕ) → ((u : ℕ) → a ≤ u → u < a + n → f u ≡ false) → find f (range a n) ≡ none
unfolding range find
first_none f zero a no_one = refl
first_none f (suc n) a no_one = find_no f a (range (suc a) n) (no_one a (omega arith) (omega arith)) ∙ first_none f n (suc a) (λ u x y. no_one u (omega arith) (omega arith))

-- a thread that may not step does not fit
fits_enabled : (g : Graph) (pl : Event → ℕ) (σ : State) (t : ℕ) → enabled σ t ≡ false → fits g pl σ t ≡ false
unfolding fits
fits_enabled g pl σ t e = rw e

module _ (code lengths : List ℕ) (n : ℕ) (pairs table : List ℕ) (p : Program) (g : Graph) (m : Machine) (counts : List ℕ) (s : Schedule)
    (W : Walking code lengths n pairs table p g m counts s) where
  abbrev pub σ : State
  σ = run SC (start p) s

  readable : Readable n g
  readable = read_readable n W.given.text g W.given.read

  pub walk_regular : Regular (run SC (start p) s)
  walk_regular = regular_run s (start p) (regular_start p W.given.loaded.well_formed) W.allowed

  pub walk_six : n ≤ 6
  walk_six = six_held code lengths n p W.given.loaded

  threads_many : length σ.threads ≡ n
  threads_many = run_threads s (start p) ∙ start_threads p ∙ threads_held code lengths n p W.given.loaded

  pub walk_drawn : Drawn pairs table n m g (location_of p (final_values p g)) σ
  walk_drawn = record {
    rows = readable.rows;
    ordered = readable.ordered;
    small = λ t r k. let a = (readable.reads t r k).0 in omega arith;
    sources = λ t i a b. W.given.tabled.sources t i (omega (arith, walk_six)) b;
    places = W.given.places;
    done = λ t a. (W.holds.threads t (omega (arith, walk_six))).done;
  }

  pub walk_ordering : Ordering pairs counts g σ
  walk_ordering = record { orders = W.given.tabled.orders; made = W.made }

  idle_done : (thread_of σ 254).history.done ≡ 0
  unfolding no_thread
  idle_done = ap (λ (h : Thread). h.history.done) (missing σ 254 (omega (arith, threads_many, walk_six)))

  -- a thread that may step
  module _ (t : ℕ) (ok : enabled σ t ≡ true) where
    pub walk_below : t < n
    walk_below = omega (arith, enabled_range σ t ok, threads_many)

    pub walk_ready : Ready lengths m t
    walk_ready = ready_held code lengths m σ W.holds t (short_held code lengths n p W.given.loaded t walk_below) ok

    pub walk_near : place σ t < 8
    walk_near = near_held code lengths n p W.given.loaded m σ W.holds t walk_below

    pub walk_ranged : (b : List ℕ) → NoteOf b σ t → Ranged b
    unfolding note_bytes note
    walk_ranged b e = subst Ranged (sym e) (record {
      thread = enabled_small σ t ok;
      number = let r = walk_ready in let d = (W.holds.threads t (enabled_small σ t ok)).done in omega (arith, r.left, r.sixteen, r.bounded);
      location = walk_near;
    })

    pub walk_unmarked : (b : List ℕ) → NoteOf b σ t → get_or b 4 0 ≡ 254 → ⊥
    unfolding note_bytes note latest initial_write
    walk_unmarked b e q = go (cell_of σ (place σ t)).writes refl (sym (ap (λ (x : List ℕ). get_or x 4 0) e) ∙ q)
      where
        go : (ws : List Event) → (cell_of σ (place σ t)).writes ≡ ws → (latest ws).0 ≡ 254 → ⊥
        go [] z k = omega arith
        go (w ∷ ws) z k =
            let o = walk_regular.old (place σ t) w (subst (Memᴰ w) (sym z) (Memᴰ.head refl)) in
            omega (arith, o, ap (λ (u : ℕ). (thread_of σ u).history.done) k ∙ idle_done)

  -- the answer
  pub chosen_one : (t : ℕ) → t < 6 → ((u : ℕ) → u < t → fits g (location_of p (final_values p g)) σ u ≡ false) → fits g (location_of p (final_values p g)) σ t ≡ true → some t ≡ next_of p g s
  chosen_one t h before e = sym (first_at (fits g (location_of p (final_values p g)) σ) 6 0 t (λ u a b. before u b) (omega arith) h e)

  pub chosen_none : (t : ℕ) → 6 ≤ t → ((u : ℕ) → u < t → fits g (location_of p (final_values p g)) σ u ≡ false) → none ≡ next_of p g s
  chosen_none t h before = sym (first_none (fits g (location_of p (final_values p g)) σ) 6 0 (λ u a b. before u (omega arith)))

  pub ended_over : (t : ℕ) → enabled σ t ≡ false → fits g (location_of p (final_values p g)) σ t ≡ false
  ended_over t e = fits_enabled g (location_of p (final_values p g)) σ t e
