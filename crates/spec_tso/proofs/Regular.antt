-- What holds of every state of a run: code in range, pending stores to locations that exist, each thread's stores in order, and one value for each
-- write.
use Prim.Native.Nat.{ℕ, ◌<◌, ◌≤◌}
use mathlib.Core.Path.{◌≡◌, refl, sym, ap, subst, ◌∙◌}
use mathlib.Core.Logic.{◌⊎◌, ⊎_elim}
use mathlib.Core.Bool.{true}
use mathlib.Core.List.Memᴰ
use mathlib.Core.List.{[], ◌∷◌, Memᴰ}
use native.Mathlib.Omega.{arith}
use lib.ListN.{length}
use Rattle.spec_file.specs.Program.{Program}
use Rattle.spec_file.specs.WellFormed.{WellFormed, Everywhere, InRange}
use Rattle.spec_schedules.specs.Order.{Schedule}
use Rattle.spec_schedules.specs.System.{run, Allowed}
use Rattle.spec_sc.specs.Local.{place_of, puts, next}
use Rattle.spec_sc.specs.State as SC
use Rattle.spec_sc.specs.State.{Cell}
use Rattle.spec_sc.proofs.Suffix.{suffix_everywhere}
use Rattle.spec_sc.proofs.Access as Access
use Rattle.spec_sc.proofs.Access.{Settled, next_suffix, place_below}
use Rattle.spec_sc.proofs.Halted.{Halts, access_halts, halts_start}
use Rattle.spec_sc.proofs.Start.{start_writes}
use Rattle.spec_sc.proofs.Regular as SCRegular
use Rattle.spec_tso.specs.Queue.{Entry, queued}
use Rattle.spec_tso.specs.State.{Thread, State, thread_of, cell_of, locked, finds, target, thread_behind, place, step_of, able, kind_of, owner, step, enabled, TSO, drained, idle, start, Kind, access, move}
use Rattle.spec_tso.proofs.Steps.{enabled_small, enabled_able, able_pending, able_movable, able_range, step_of_threads, step_of_cells}
use Rattle.spec_tso.proofs.Queues.{movable_place}
use Rattle.spec_tso.proofs.Change.{thread_cases, Change, change}
use Rattle.spec_tso.proofs.StoreOrder.{Within, StoresInOrder, stores_step}
use Rattle.spec_tso.proofs.Values.{Values, Agrees, queued_in, newer_in, values_step}
use Rattle.spec_tso.proofs.Seen.{drained_thread, drained_cell, drained_cells, drained_count}

pub record Regular (σ : State) : Type 0 where
  pub settled : (t : ℕ) → Settled (thread_of σ t).local
  -- a failed assertion leaves no code
  pub halts : (t : ℕ) → Halts (thread_of σ t).local
  pub six : length σ.threads ≤ 6
  pub ranges : (t : ℕ) → Everywhere InRange (thread_of σ t).local.rest
  pub eight : length σ.cells ≡ 8
  pub places : (t : ℕ) (x : Entry) → Memᴰ x (thread_of σ t).queue → x.location < 8
  pub stores : (t : ℕ) → StoresInOrder σ t
  pub valued : (β : Values) × Agrees β σ

-- a step goes to one of the cells
pub place_in : (σ : State) → Regular σ → (k : Kind) (t : ℕ) → able k (thread_of σ t) (length σ.cells) ≡ true → place σ k t < length σ.cells
unfolding place target
place_in σ r access t m = omega (arith, place_below (thread_of σ t).local (r.ranges t), r.eight)
place_in σ r move t m = movable_place (thread_of σ t).queue (length σ.cells) (able_movable (thread_of σ t) (length σ.cells) m)

pub changes : (σ : State) → Regular σ → (k : Kind) (t : ℕ) → able k (thread_of σ t) (length σ.cells) ≡ true → (l : ℕ) → Change σ k t l
changes σ r k t m l = change σ k t (place_in σ r k t m) l

own_ranges : (k : Kind) (t : ℕ) (h : Thread) (c : Cell) (n : ℕ) → able k h n ≡ true → Everywhere InRange h.local.rest → Everywhere InRange (thread_behind k t h c).local.rest
unfolding thread_behind
own_ranges access t h c n m r = suffix_everywhere InRange (next h.local (finds t h c).value).rest h.local.rest (next_suffix h.local (finds t h c).value (able_pending h n m)) r
own_ranges move t h c n m r = r

own_settled : (k : Kind) (t : ℕ) (h : Thread) (c : Cell) (n : ℕ) → able k h n ≡ true → Settled h.local → Settled (thread_behind k t h c).local
unfolding thread_behind
own_settled access t h c n m s = (Access.behind h.local (finds t h c).value (able_pending h n m)).settled
own_settled move t h c n m s = s

own_halts : (k : Kind) (t : ℕ) (h : Thread) (c : Cell) (n : ℕ) → able k h n ≡ true → Halts h.local → Halts (thread_behind k t h c).local
unfolding thread_behind
own_halts access t h c n m s = access_halts h.local (finds t h c).value (able_pending h n m)
own_halts move t h c n m s = s

own_places : (k : Kind) (t : ℕ) (h : Thread) (c : Cell) → Everywhere InRange h.local.rest → ((x : Entry) → Memᴰ x h.queue → x.location < 8) → (x : Entry) → Memᴰ x (thread_behind k t h c).queue → x.location < 8
unfolding thread_behind
own_places access t h c r p x m = ⊎_elim (λ (j : Memᴰ x h.queue). p x j)
    (λ (j : Memᴰ x (queued (locked h.local) h.history.done (place_of h.local) (puts h.local (finds t h c).value))).
    omega (arith, (queued_in (locked h.local) h.history.done (place_of h.local) (puts h.local (finds t h c).value) x j).1, place_below h.local r))
    (Memᴰ.append_cases h.queue m)
own_places move t h c r p x m = p x (newer_in h.queue x m)

pub regular_step_of : (σ : State) (k : Kind) (t : ℕ) → Regular σ → able k (thread_of σ t) (length σ.cells) ≡ true → t < 6 → Regular (step_of σ k t)
regular_step_of σ k t r m h = record {
  settled = λ u. thread_cases (λ i x. Settled x.local) σ k t (able_range σ k t (length σ.cells) m) (own_settled k t (thread_of σ t) (cell_of σ (place σ k t)) (length σ.cells) m (r.settled t)) u (λ ne. r.settled u);
  halts = λ u. thread_cases (λ i x. Halts x.local) σ k t (able_range σ k t (length σ.cells) m) (own_halts k t (thread_of σ t) (cell_of σ (place σ k t)) (length σ.cells) m (r.halts t)) u (λ ne. r.halts u);
  six = omega (arith, step_of_threads σ k t, r.six);
  ranges = λ u. thread_cases (λ i x. Everywhere InRange x.local.rest) σ k t (able_range σ k t (length σ.cells) m) (own_ranges k t (thread_of σ t) (cell_of σ (place σ k t)) (length σ.cells) m (r.ranges t)) u (λ ne. r.ranges u);
  eight = step_of_cells σ k t ∙ r.eight;
  places = λ u. thread_cases (λ i x. (y : Entry) → Memᴰ y x.queue → y.location < 8) σ k t (able_range σ k t (length σ.cells) m) (own_places k t (thread_of σ t) (cell_of σ (place σ k t)) (r.ranges t) (r.places t)) u (λ ne. r.places u);
  stores = stores_step σ k t m (changes σ r k t m) r.stores;
  valued = let q = values_step r.valued.0 σ k t m (changes σ r k t m) h r.stores r.valued.1 in (q.0, q.2);
}

pub regular_step : (σ : State) (b : ℕ) → Regular σ → enabled σ b ≡ true → Regular (step σ b)
unfolding step
regular_step σ b r m = regular_step_of σ (kind_of b) (owner b) r (enabled_able σ b m) (enabled_small σ b m)

pub regular_run : (s : Schedule) (σ : State) → Regular σ → Allowed TSO σ s → Regular (run TSO σ s)
unfolding run
regular_run [] σ r a = r
regular_run (b ∷ s) σ r a = regular_run s (step σ b) (regular_step σ b r a.0) a.1

-- where nothing is pending and nothing is written
regular_drained : (σ : SC.State) → SCRegular.Regular σ → ((t : ℕ) → Halts (SC.thread_of σ t).local) → ((l : ℕ) → (SC.cell_of σ l).writes ≡ []) → Regular (drained σ)
unfolding idle
regular_drained σ r f w = record {
  settled = λ t. subst (λ (h : Thread). Settled h.local) (sym (drained_thread σ t)) (r.settled t);
  halts = λ t. subst (λ (h : Thread). Halts h.local) (sym (drained_thread σ t)) (f t);
  six = omega (arith, drained_count σ, r.six);
  ranges = λ t. subst (λ (h : Thread). Everywhere InRange h.local.rest) (sym (drained_thread σ t)) (r.ranges t);
  eight = ap length (drained_cells σ) ∙ r.eight;
  places = λ t x m. absurd (Memᴰ.not-nil (subst (λ (h : Thread). Memᴰ x h.queue) (drained_thread σ t) m));
  stores = λ t. record {
    floor = 0;
    within = subst (λ (h : Thread). Within 0 h.queue h.history.done) (sym (drained_thread σ t)) (omega arith);
    below = λ l e m q. absurd (Memᴰ.not-nil (subst (Memᴰ e) (ap (λ (c : Cell). c.writes) (drained_cell σ l) ∙ w l) m));
  };
  valued = (
    λ l e. (cell_of (drained σ) l).value,
    record {
      entries = λ t x m. absurd (Memᴰ.not-nil (subst (λ (h : Thread). Memᴰ x h.queue) (drained_thread σ t) m));
      cells = λ l. refl;
    },
  );
}

pub regular_start : (p : Program) → WellFormed p → Regular (start p)
unfolding start
regular_start p w = regular_drained (SC.start p) (SCRegular.regular_start p w) (halts_start p) (start_writes p)
