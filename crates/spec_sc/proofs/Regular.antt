-- What holds of every state of a run: threads are settled in code in range, noted events were done, and each read's source is the initial
-- write or stands among the writes of a location.
use Prim.Native.Nat.{ℕ, ◌<◌, ◌≤◌}
use mathlib.Core.Path.{◌≡◌, refl, sym, ap, subst, ◌∙◌}
use mathlib.Core.Logic.{◌⊎◌, inl, inr, ⊎_elim}
use mathlib.Core.Bool.{Bool, true, false}
use mathlib.Core.List.Memᴰ
use mathlib.Core.List.{List, [], ◌∷◌, Memᴰ}
use native.Mathlib.Omega.{arith}
use lib.ListN.{length}
use Rattle.spec_file.specs.Program.{Program}
use Rattle.spec_file.specs.WellFormed.{WellFormed, Everywhere, InRange}
use Rattle.spec_schedules.specs.Order.{Schedule}
use Rattle.spec_schedules.specs.System.{run, Allowed}
use Rattle.spec_sc.specs.Local.{takes, begin}
use Rattle.spec_sc.specs.State.{Event, initial_write, History, Thread, Cell, State, no_thread, thread_of, cell_of, place, latest, noted, advanced, step, enabled, SC, opened, start}
use Rattle.spec_sc.proofs.Suffix.{suffix_everywhere}
use Rattle.spec_sc.proofs.Access.{Settled, behind, next_suffix, begin_law, place_below}
use Rattle.spec_sc.proofs.Steps.{enabled_pending, enabled_range, step_threads, step_cells}
use Rattle.spec_sc.proofs.Change.{thread_cases, done_own, done_grows, Change, kept, wrote, change, writes_stay}
use Rattle.spec_sc.proofs.Start.{start_threads, start_cells, start_cases, start_writes, start_history}

-- e is a write of some location
abbrev pub Written : State → Event → Type 0
Written σ e = (l : ℕ) × Memᴰ e (cell_of σ l).writes

pub record Regular (σ : State) : Type 0 where
  pub settled : (t : ℕ) → Settled (thread_of σ t).local
  pub ranges : (t : ℕ) → Everywhere InRange (thread_of σ t).local.rest
  pub eight : length σ.cells ≡ 8
  pub six : length σ.threads ≤ 6
  -- writes and reads that are noted were done
  pub old : (l : ℕ) (e : Event) → Memᴰ e (cell_of σ l).writes → e.1 < (thread_of σ e.0).history.done
  pub numbered : (t : ℕ) (r : ℕ × Event) → Memᴰ r (thread_of σ t).history.reads → r.0 < (thread_of σ t).history.done
  pub sourced : (t : ℕ) (r : ℕ × Event) → Memᴰ r (thread_of σ t).history.reads → (r.1 ≡ initial_write) ⊎ Written σ r.1

-- an access goes to one of the cells
pub place_in : (σ : State) → Regular σ → (t : ℕ) → place σ t < length σ.cells
unfolding place
place_in σ r t = omega (arith, place_below (thread_of σ t).local (r.ranges t), r.eight)

pub changes : (σ : State) → Regular σ → (t l : ℕ) → Change σ t l
changes σ r t l = change σ t (place_in σ r t) l

pub latest_of : (ws : List Event) → (latest ws ≡ initial_write) ⊎ Memᴰ (latest ws) ws
unfolding latest
latest_of [] = inl refl
latest_of (e ∷ ws) = inr (Memᴰ.head refl)

noted_numbered : (b : Bool) (e : Event) (h : History) → ((r : ℕ × Event) → Memᴰ r h.reads → r.0 < h.done) → (r : ℕ × Event) → Memᴰ r (noted b e h).reads → r.0 < (noted b e h).done
unfolding noted
noted_numbered true e h f r m = ⊎_elim (λ (q : r ≡ (h.done, e)). omega (arith, ap (λ (k : ℕ × Event). k.0) q)) (λ (k : Memᴰ r h.reads). omega (arith, f r k)) (Memᴰ.cases_cons m)
noted_numbered false e h f r m = omega (arith, f r m)

noted_sourced : (P : Event → Type 0) (b : Bool) (e : Event) (h : History) → P e → ((r : ℕ × Event) → Memᴰ r h.reads → P r.1) → (r : ℕ × Event) → Memᴰ r (noted b e h).reads → P r.1
unfolding noted
noted_sourced P true e h p f r m = ⊎_elim (λ (q : r ≡ (h.done, e)). subst P (sym (ap (λ (k : ℕ × Event). k.1) q)) p) (λ (k : Memᴰ r h.reads). f r k) (Memᴰ.cases_cons m)
noted_sourced P false e h p f r m = f r m

module _ (σ : State) (t : ℕ) (r : Regular σ) (m : enabled σ t ≡ true) where
  abbrev own : Thread
  own = advanced (thread_of σ t) (cell_of σ (place σ t))

  in_range_lem : t < length σ.threads
  in_range_lem = enabled_range σ t m

  step_old : (l : ℕ) (x : Event) → Memᴰ x (cell_of (step σ t) l).writes → x.1 < (thread_of (step σ t) x.0).history.done
  step_old l x k = go (changes σ r t l)
    where
      more : Memᴰ x (cell_of σ l).writes → x.1 < (thread_of (step σ t) x.0).history.done
      more h = omega (arith, r.old l x h, done_grows σ t in_range_lem x.0)

      go : Change σ t l → x.1 < (thread_of (step σ t) x.0).history.done
      go (kept q) = more (subst (λ (c : Cell). Memᴰ x c.writes) q k)
      go (wrote q v e w y) = ⊎_elim
          (λ (i : x ≡ (t, (thread_of σ t).history.done)). subst (λ (z : Event). z.1 < (thread_of (step σ t) z.0).history.done) (sym i) (omega (arith, done_own σ t in_range_lem)))
          (λ (i : Memᴰ x (cell_of σ l).writes). more i)
          (Memᴰ.cases_cons (subst (Memᴰ x) w k))

  -- what was a source stays one
  stays_written : (e : Event) → (e ≡ initial_write) ⊎ Written σ e → (e ≡ initial_write) ⊎ Written (step σ t) e
  stays_written e (inl q) = inl q
  stays_written e (inr w) = inr (w.0, writes_stay σ t w.0 e (place_in σ r t) w.1)

  latest_written : (latest (cell_of σ (place σ t)).writes ≡ initial_write) ⊎ Written σ (latest (cell_of σ (place σ t)).writes)
  latest_written = go (latest_of (cell_of σ (place σ t)).writes)
    where
      go : (latest (cell_of σ (place σ t)).writes ≡ initial_write) ⊎ Memᴰ (latest (cell_of σ (place σ t)).writes) (cell_of σ (place σ t)).writes → (latest (cell_of σ (place σ t)).writes ≡ initial_write) ⊎ Written σ (latest (cell_of σ (place σ t)).writes)
      go (inl q) = inl q
      go (inr w) = inr (place σ t, w)

  pub regular_step : Regular (step σ t)
  unfolding advanced
  regular_step = record {
    settled = λ u. thread_cases (λ k h. Settled h.local) σ t in_range_lem (behind (thread_of σ t).local (cell_of σ (place σ t)).value (enabled_pending σ t m)).settled u (λ ne. r.settled u);
    ranges = λ u. thread_cases (λ k h. Everywhere InRange h.local.rest) σ t in_range_lem
        (suffix_everywhere InRange own.local.rest (thread_of σ t).local.rest (next_suffix (thread_of σ t).local _ (enabled_pending σ t m)) (r.ranges t)) u (λ ne. r.ranges u);
    eight = step_cells σ t ∙ r.eight;
    six = omega (arith, step_threads σ t, r.six);
    old = step_old;
    numbered = λ u. thread_cases (λ k h. (x : ℕ × Event) → Memᴰ x h.history.reads → x.0 < h.history.done) σ t in_range_lem
        (noted_numbered (takes (thread_of σ t).local) (latest (cell_of σ (place σ t)).writes) (thread_of σ t).history (r.numbered t)) u (λ ne. r.numbered u);
    sourced = λ u x k. stays_written x.1
        (thread_cases (λ j h. (x : ℕ × Event) → Memᴰ x h.history.reads → (x.1 ≡ initial_write) ⊎ Written σ x.1) σ t in_range_lem
        (noted_sourced (λ e. (e ≡ initial_write) ⊎ Written σ e) (takes (thread_of σ t).local) (latest (cell_of σ (place σ t)).writes) (thread_of σ t).history latest_written (r.sourced t)) u (λ ne. r.sourced u) x k);
  }

pub regular_run : (s : Schedule) (σ : State) → Regular σ → Allowed SC σ s → Regular (run SC σ s)
unfolding run
regular_run [] σ r a = r
regular_run (t ∷ s) σ r a = regular_run s (step σ t) (regular_step σ t r a.0) a.1

pub regular_start : (p : Program) → WellFormed p → Regular (start p)
unfolding opened no_thread
regular_start p w = record {
  settled = start_cases p (Everywhere InRange) (λ h. Settled h.local) (inl refl) (λ c q. (begin_law c).0) w.ranges;
  ranges = start_cases p (Everywhere InRange) (λ h. Everywhere InRange h.local.rest) tt (λ c q. suffix_everywhere InRange (begin c).rest c (begin_law c).1 q) w.ranges;
  eight = start_cells p w;
  six = omega (arith, start_threads p, w.six);
  old = λ l e m. absurd (Memᴰ.not-nil (subst (Memᴰ e) (start_writes p l) m));
  numbered = λ t r m. absurd (Memᴰ.not-nil (subst (Memᴰ r) (start_history p t).1 m));
  sourced = λ t r m. absurd (Memᴰ.not-nil (subst (Memᴰ r) (start_history p t).1 m));
}
