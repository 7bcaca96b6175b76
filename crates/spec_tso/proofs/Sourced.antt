-- Where a read's source stands: a read is of an own store, of the initial write, or of a write in memory.
use Prim.Native.Nat.{ℕ}
use mathlib.Core.Path.{◌≡◌, refl, sym, ap, subst}
use mathlib.Core.Logic.{◌⊎◌, inl, inr, ⊎_elim}
use mathlib.Core.Bool.{Bool, true, false}
use mathlib.Core.Option.{Option, none, some}
use mathlib.Core.List.Memᴰ
use mathlib.Core.List.{[], ◌∷◌, Memᴰ}
use lib.ListN.{length}
use Rattle.spec_file.specs.Program.{Program}
use Rattle.spec_file.specs.WellFormed.{WellFormed}
use Rattle.spec_schedules.specs.Order.{Schedule}
use Rattle.spec_schedules.specs.System.{run, Allowed}
use Rattle.spec_sc.specs.Local.{place_of, takes}
use Rattle.spec_sc.specs.State as SC
use Rattle.spec_sc.specs.State.{Event, initial_write, Cell}
use Rattle.spec_sc.proofs.Change.{added_read, noted_reads}
use Rattle.spec_sc.proofs.Start.{start_writes}
use Rattle.spec_sc.proofs.Regular as SCRegular
use Rattle.spec_sc.proofs.Regular.{latest_of}
use Rattle.spec_tso.specs.Queue.{Entry, newest, found_in}
use Rattle.spec_tso.specs.State.{Thread, State, thread_of, cell_of, finds, thread_behind, place, step_of, kind_of, owner, step, enabled, TSO, idle, start, Kind, access, move}
use Rattle.spec_tso.proofs.Steps.{enabled_able, able_range}
use Rattle.spec_tso.proofs.Change.{thread_cases, Change, writes_stay}
use Rattle.spec_tso.proofs.Regular.{Regular, changes, regular_start, regular_step}
use Rattle.spec_tso.proofs.Seen.{drained_thread}

-- e is a write of t, the initial one, or in memory
abbrev pub From : State → ℕ → Event → Type 0
From σ t e = (e.0 ≡ t) ⊎ ((e ≡ initial_write) ⊎ ((l : ℕ) × Memᴰ e (cell_of σ l).writes))

abbrev pub Sourced : State → Type 0
Sourced σ = (t : ℕ) (r : ℕ × Event) → Memᴰ r (thread_of σ t).history.reads → From σ t r.1

found_from_lem : (t : ℕ) (o : Option Entry) (c : Cell) → ((found_in t o c).source.0 ≡ t) ⊎ (((found_in t o c).source ≡ initial_write) ⊎ Memᴰ (found_in t o c).source c.writes)
unfolding found_in
found_from_lem t (some e) c = inl refl
found_from_lem t none c = inr (latest_of c.writes)

finds_from : (t : ℕ) (h : Thread) (c : Cell) → ((finds t h c).source.0 ≡ t) ⊎ (((finds t h c).source ≡ initial_write) ⊎ Memᴰ (finds t h c).source c.writes)
unfolding finds
finds_from t h c = found_from_lem t (newest h.queue (place_of h.local)) c

pub added_in : (b : Bool) (i : ℕ) (e : Event) (r : ℕ × Event) → Memᴰ r (added_read b i e) → r.1 ≡ e
unfolding added_read
added_in true i e r m = ⊎_elim (λ (q : r ≡ (i, e)). ap (λ (x : ℕ × Event). x.1) q) (λ (k : Memᴰ r []). absurd (Memᴰ.not-nil k)) (Memᴰ.cases_cons m)
added_in false i e r m = absurd (Memᴰ.not-nil m)

module _ (σ : State) (k : Kind) (t : ℕ) (ch : (l : ℕ) → Change σ k t l) where
  from_stays : (u : ℕ) (e : Event) → From σ u e → From (step_of σ k t) u e
  from_stays u e (inl q) = inl q
  from_stays u e (inr (inl q)) = inr (inl q)
  from_stays u e (inr (inr m)) = inr (inr (m.0, writes_stay σ k t m.0 e (ch m.0) m.1))

own_reads : (σ : State) (k : Kind) (t : ℕ) → ((l : ℕ) → Change σ k t l) → Sourced σ → (r : ℕ × Event) → Memᴰ r (thread_behind k t (thread_of σ t) (cell_of σ (place σ k t))).history.reads → From (step_of σ k t) t r.1
unfolding thread_behind
own_reads σ move t ch s r m = from_stays σ move t ch t r.1 (s t r m)
own_reads σ access t ch s r m =
    ⊎_elim
    (λ (i : Memᴰ r (added_read (takes (thread_of σ t).local) (thread_of σ t).history.done (finds t (thread_of σ t) c).source)).
    subst (From (step_of σ access t) t) (sym (added_in (takes (thread_of σ t).local) (thread_of σ t).history.done (finds t (thread_of σ t) c).source r i)) (here (finds_from t (thread_of σ t) c)))
    (λ (i : Memᴰ r (thread_of σ t).history.reads). from_stays σ access t ch t r.1 (s t r i))
    (Memᴰ.append_cases (added_read (takes (thread_of σ t).local) (thread_of σ t).history.done (finds t (thread_of σ t) c).source)
    (subst (Memᴰ r) (noted_reads (takes (thread_of σ t).local) (finds t (thread_of σ t) c).source (thread_of σ t).history) m))
  where
    c : Cell
    c = cell_of σ (place σ access t)

    here : ((finds t (thread_of σ t) c).source.0 ≡ t) ⊎ (((finds t (thread_of σ t) c).source ≡ initial_write) ⊎ Memᴰ (finds t (thread_of σ t) c).source c.writes) → From (step_of σ access t) t (finds t (thread_of σ t) c).source
    here (inl q) = inl q
    here (inr (inl q)) = inr (inl q)
    here (inr (inr i)) = inr (inr (place σ access t, writes_stay σ access t (place σ access t) (finds t (thread_of σ t) c).source (ch (place σ access t)) i))

pub sourced_step : (σ : State) (b : ℕ) → Regular σ → enabled σ b ≡ true → Sourced σ → Sourced (step σ b)
unfolding step
sourced_step σ b g m s u =
    thread_cases (λ i h. (r : ℕ × Event) → Memᴰ r h.history.reads → From (step σ b) i r.1) σ (kind_of b) (owner b) (able_range σ (kind_of b) (owner b) (length σ.cells) (enabled_able σ b m))
    (own_reads σ (kind_of b) (owner b) (changes σ g (kind_of b) (owner b) (enabled_able σ b m)) s) u
    (λ ne r i. from_stays σ (kind_of b) (owner b) (changes σ g (kind_of b) (owner b) (enabled_able σ b m)) u r.1 (s u r i))

pub sourced_run : (z : Schedule) (σ : State) → Regular σ → Allowed TSO σ z → Sourced σ → Sourced (run TSO σ z)
unfolding run
sourced_run [] σ g a s = s
sourced_run (b ∷ z) σ g a s = sourced_run z (step σ b) (regular_step σ b g a.0) a.1 (sourced_step σ b g a.0 s)

pub sourced_start : (p : Program) → WellFormed p → Sourced (start p)
unfolding start idle
sourced_start p w t r m =
    let e : (thread_of (start p) t).history ≡ (SC.thread_of (SC.start p) t).history = ap (λ (h : Thread). h.history) (drained_thread (SC.start p) t) in
    go ((SCRegular.regular_start p w).sourced t r (subst (λ (h : SC.History). Memᴰ r h.reads) e m))
  where
    go : (r.1 ≡ initial_write) ⊎ SCRegular.Written (SC.start p) r.1 → From (start p) t r.1
    go (inl q) = inr (inl q)
    go (inr k) = absurd (Memᴰ.not-nil (subst (Memᴰ r.1) (start_writes p k.0) k.1))

pub sourced : (p : Program) → WellFormed p → (v : Schedule) → Allowed TSO (start p) v → Sourced (run TSO (start p) v)
sourced p w v a = sourced_run v (start p) (regular_start p w) a (sourced_start p w)
