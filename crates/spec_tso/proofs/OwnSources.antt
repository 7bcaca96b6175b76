-- Behind a full schedule every read is of the initial write or of one in memory: a read of an own pending store has it in the queue until it is
-- moved.
use Prim.Native.Nat.{ℕ, ◌<◌}
use mathlib.Core.Path.{◌≡◌, refl, sym, ap, subst, ◌∙◌}
use mathlib.Core.Logic.{◌⊎◌, inl, inr, ⊎_elim}
use mathlib.Core.Bool.{true, false, false≢true}
use mathlib.Core.Option.{Option, none, some}
use mathlib.Core.List.{List, [], ◌∷◌, Memᴰ}
use native.Mathlib.Omega.{arith}
use native.Mathlib.Decide.{dec_lt}
use lib.ListN.{length, get_or}
use Rattle.spec_file.specs.Program.{Program}
use Rattle.spec_file.specs.WellFormed.{WellFormed}
use Rattle.spec_schedules.specs.Order.{Schedule}
use Rattle.spec_schedules.specs.System.{run, Allowed}
use Rattle.spec_sc.specs.Local.{place_of, takes}
use Rattle.spec_sc.specs.State as SC
use Rattle.spec_sc.specs.State.{Event, initial_write, Cell}
use Rattle.spec_sc.proofs.Change.{added_read, noted_reads}
use Rattle.spec_sc.proofs.Regular.{latest_of}
use Rattle.spec_sc.proofs.Start.{start_history}
use Rattle.spec_sc.proofs.Fixed as Fixed
use Rattle.spec_sc.proofs.Rows.{row_at, order_at}
use Rattle.spec_tso.specs.Queue.{Entry, newest, found_in, newer, movable, oldest_number, oldest_value}
use Rattle.spec_tso.specs.State.{Thread, State, no_thread, thread_of, cell_of, unqueued, without_queues, idle, finds, number_of, reaches, thread_behind, place, step_of, able, kind_of, owner, step, enabled, TSO, start, Kind, access, move}
use Rattle.spec_tso.specs.Graph.{graph_of, graph, end_of, Full}
use Rattle.spec_tso.proofs.Steps.{enabled_able, able_range, able_movable, missing, putting}
use Rattle.spec_tso.proofs.Change.{thread_cases, Change, writes_stay, wrote_own}
use Rattle.spec_tso.proofs.Regular.{Regular, place_in, changes, regular_start, regular_step}
use Rattle.spec_tso.proofs.Seen.{seen_thread, seen_cell, drained_thread, run_threads, start_threads}
use Rattle.spec_tso.proofs.Values.{newest_in}
use Rattle.spec_tso.proofs.Sourced.{added_in}
use Rattle.spec_tso.proofs.Ended.{Ended, Empty, full_exactly}

-- a read of thread t, whose queue is q, has its source in the queue, or it is the initial write, or it is in memory
abbrev Standing : State → ℕ → List Entry → Event → Type 0
Standing σ t q e = ((x : Entry) × Memᴰ x q × (e ≡ (t, x.number))) ⊎ ((e ≡ initial_write) ⊎ ((l : ℕ) × Memᴰ e (cell_of σ l).writes))

abbrev AllStanding : State → Type 0
AllStanding σ = (t : ℕ) (r : ℕ × Event) → Memᴰ r (thread_of σ t).history.reads → Standing σ t (thread_of σ t).queue r.1

module _ (σ : State) (k : Kind) (t : ℕ) (ch : (l : ℕ) → Change σ k t l) where
  stands_on : (u : ℕ) (q q' : List Entry) (e : Event) → ((x : Entry) → Memᴰ x q → Memᴰ x q') → Standing σ u q e → Standing (step_of σ k t) u q' e
  stands_on u q q' e f (inl i) = inl (i.0, f i.0 i.1, i.2)
  stands_on u q q' e f (inr (inl i)) = inr (inl i)
  stands_on u q q' e f (inr (inr i)) = inr (inr (i.0, writes_stay σ k t i.0 e (ch i.0) i.1))

found_stands : (σ : State) (t : ℕ) → Standing σ t (thread_of σ t).queue (finds t (thread_of σ t) (cell_of σ (place σ access t))).source
unfolding finds found_in
found_stands σ t = go (newest (thread_of σ t).queue (place_of (thread_of σ t).local)) refl
  where
    memory : (e : Event) → (e ≡ initial_write) ⊎ Memᴰ e (cell_of σ (place σ access t)).writes → Standing σ t (thread_of σ t).queue e
    memory e (inl i) = inr (inl i)
    memory e (inr i) = inr (inr (place σ access t, i))

    go : (o : Option Entry) → newest (thread_of σ t).queue (place_of (thread_of σ t).local) ≡ o
        → Standing σ t (thread_of σ t).queue (found_in t (newest (thread_of σ t).queue (place_of (thread_of σ t).local)) (cell_of σ (place σ access t))).source
    go none e = rw e (memory (SC.latest (cell_of σ (place σ access t)).writes) (latest_of (cell_of σ (place σ access t)).writes))
    go (some x) e = rw e (inl (x, (newest_in (thread_of σ t).queue (place_of (thread_of σ t).local) x e).0, refl))

moved_write : (σ : State) (t : ℕ) (y : Entry) (q : List Entry) → (thread_of σ t).queue ≡ y ∷ q → place σ move t < length σ.cells
    → Memᴰ (t, y.number) (cell_of (step_of σ move t) (place σ move t)).writes
unfolding reaches number_of oldest_value oldest_number
moved_write σ t y q e h =
    let w : putting σ move t ≡ some y.value = rw e in
    let n : oldest_number (thread_of σ t).queue ≡ y.number = rw e in
    subst (Memᴰ (t, y.number)) (sym (wrote_own σ move t (place σ move t) y.value h refl w).0) (mathlib.Core.List.Memᴰ.head (ap (λ (i : ℕ). (t, i)) (sym n)))

module _ (σ : State) (g : Regular σ) (t : ℕ) (s : AllStanding σ) where
  own_access : able access (thread_of σ t) (length σ.cells) ≡ true → (r : ℕ × Event) → Memᴰ r (thread_behind access t (thread_of σ t) (cell_of σ (place σ access t))).history.reads
      → Standing (step_of σ access t) t (thread_behind access t (thread_of σ t) (cell_of σ (place σ access t))).queue r.1
  unfolding thread_behind
  own_access m r i =
      let c = cell_of σ (place σ access t) in
      let h = thread_of σ t in
      ⊎_elim
      (λ (j : Memᴰ r (added_read (takes h.local) h.history.done (finds t h c).source)).
      on r.1 (subst (Standing σ t h.queue) (sym (added_in (takes h.local) h.history.done (finds t h c).source r j)) (found_stands σ t)))
      (λ (j : Memᴰ r h.history.reads). on r.1 (s t r j))
      (mathlib.Core.List.Memᴰ.append_cases (added_read (takes h.local) h.history.done (finds t h c).source) (subst (Memᴰ r) (noted_reads (takes h.local) (finds t h c).source h.history) i))
    where
      on : (e : Event) → Standing σ t (thread_of σ t).queue e → Standing (step_of σ access t) t (thread_behind access t (thread_of σ t) (cell_of σ (place σ access t))).queue e
      on e k = stands_on σ access t (changes σ g access t m) t (thread_of σ t).queue _ e (λ x j. mathlib.Core.List.Memᴰ.append_left _ j) k

  own_move : able move (thread_of σ t) (length σ.cells) ≡ true → (r : ℕ × Event) → Memᴰ r (thread_behind move t (thread_of σ t) (cell_of σ (place σ move t))).history.reads
      → Standing (step_of σ move t) t (thread_behind move t (thread_of σ t) (cell_of σ (place σ move t))).queue r.1
  unfolding thread_behind newer movable
  own_move m r i = go (thread_of σ t).queue refl (s t r i)
    where
      ch : (l : ℕ) → Change σ move t l
      ch = changes σ g move t m

      go : (q : List Entry) → (thread_of σ t).queue ≡ q → Standing σ t (thread_of σ t).queue r.1 → Standing (step_of σ move t) t (newer (thread_of σ t).queue) r.1
      go [] e k = absurd (false≢true (subst (λ (z : List Entry). movable z (length σ.cells) ≡ true) e (able_movable (thread_of σ t) (length σ.cells) m)))
      go (y ∷ q) e (inl k) =
          ⊎_elim
          (λ (j : k.0 ≡ y). inr (inr (place σ move t, subst (λ (z : Event). Memᴰ z (cell_of (step_of σ move t) (place σ move t)).writes) (sym (k.2 ∙ ap (λ (x : Entry). (t, x.number)) j)) (moved_write σ t y q e (place_in σ g move t m)))))
          (λ (j : Memᴰ k.0 q). inl (k.0, subst (Memᴰ k.0) (sym (ap newer e)) j, k.2))
          (mathlib.Core.List.Memᴰ.cases_cons (subst (Memᴰ k.0) e k.1))
      go (y ∷ q) e (inr k) = stands_on σ move t ch t [] (newer (thread_of σ t).queue) r.1 (λ x j. absurd (mathlib.Core.List.Memᴰ.not-nil j)) (inr k)

  own_behind : (k : Kind) → able k (thread_of σ t) (length σ.cells) ≡ true → (r : ℕ × Event) → Memᴰ r (thread_behind k t (thread_of σ t) (cell_of σ (place σ k t))).history.reads
      → Standing (step_of σ k t) t (thread_behind k t (thread_of σ t) (cell_of σ (place σ k t))).queue r.1
  own_behind access m = own_access m
  own_behind move m = own_move m

standing_step : (σ : State) (b : ℕ) → Regular σ → enabled σ b ≡ true → AllStanding σ → AllStanding (step σ b)
unfolding step
standing_step σ b g m s u =
    thread_cases (λ i h. (r : ℕ × Event) → Memᴰ r h.history.reads → Standing (step_of σ (kind_of b) (owner b)) i h.queue r.1) σ (kind_of b) (owner b)
    (able_range σ (kind_of b) (owner b) (length σ.cells) (enabled_able σ b m)) (own_behind σ g (owner b) s (kind_of b) (enabled_able σ b m)) u
    (λ ne r i. stands_on σ (kind_of b) (owner b) (changes σ g (kind_of b) (owner b) (enabled_able σ b m)) u (thread_of σ u).queue (thread_of σ u).queue r.1 (λ x j. j) (s u r i))

standing_run : (z : Schedule) (σ : State) → Regular σ → Allowed TSO σ z → AllStanding σ → AllStanding (run TSO σ z)
unfolding run
standing_run [] σ g a s = s
standing_run (b ∷ z) σ g a s = standing_run z (step σ b) (regular_step σ b g a.0) a.1 (standing_step σ b g a.0 s)

standing_start : (p : Program) → AllStanding (start p)
unfolding start idle
standing_start p t r m =
    absurd (mathlib.Core.List.Memᴰ.not-nil (subst (Memᴰ r) (ap (λ (h : Thread). h.history.reads) (drained_thread (SC.start p) t) ∙ (start_history p t).1) m))

-- BEHIND A FULL SCHEDULE EVERY SOURCE IS INITIAL OR IN THE GRAPH
pub full_sourced : (p : Program) → WellFormed p → (s : Schedule) → Full p s → Fixed.Sourced (graph p s)
unfolding graph_of unqueued no_thread idle SC.no_thread
full_sourced p w s f t r m =
    let a = (full_exactly p w s).0 f in
    let σ = end_of p s in
    let i : Memᴰ r (thread_of σ t).history.reads = subst (Memᴰ r) (row_at (without_queues σ) t ∙ ap (λ (h : SC.Thread). h.history.reads) (seen_thread σ t)) m in
    go (dec_lt t (length p.threads)) a i (standing_run s (start p) (regular_start p w) a.0 (standing_start p) t r i)
  where
    go : Dec (t < length p.threads) → Allowed TSO (start p) s × ((t : ℕ) → t < length p.threads → Ended (end_of p s) t × Empty (end_of p s) t) → Memᴰ r (thread_of (end_of p s) t).history.reads
        → Standing (end_of p s) t (thread_of (end_of p s) t).queue r.1 → (r.1 ≡ initial_write) ⊎ ((l : ℕ) × Memᴰ r.1 (get_or (graph p s).writes l []))
    go d a i (inr (inl k)) = inl k
    go d a i (inr (inr k)) = inr (k.0, subst (Memᴰ r.1) (sym (order_at (without_queues (end_of p s)) k.0 ∙ ap (λ (c : Cell). c.writes) (seen_cell (end_of p s) k.0))) k.1)
    go (yes h) a i (inl k) = absurd (mathlib.Core.List.Memᴰ.not-nil (subst (Memᴰ k.0) (a.1 t h).1 k.1))
    go (no h) a i (inl k) = absurd (mathlib.Core.List.Memᴰ.not-nil (subst (λ (x : Thread). Memᴰ r x.history.reads) (missing (end_of p s) t (omega (arith, h, run_threads s (start p), start_threads p))) i))
