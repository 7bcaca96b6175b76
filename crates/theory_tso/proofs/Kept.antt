-- What a run keeps of each thread: its reads are numbered below its accesses, each source is known, and it has done as many accesses as its
-- code has lost at least. So a program of at most sixteen accesses has small digits.
use Prim.Native.Nat.{ℕ, zero, suc, ◌+◌, ◌*◌, ◌<◌, ◌≤◌}
use mathlib.Core.Path.{◌≡◌, refl, sym, ap, ap₂, subst, ◌∙◌}
use mathlib.Core.Logic.{◌≢◌, ◌⊎◌, inl, inr, ⊎_elim}
use mathlib.Core.Bool.{Bool, true, false, cond}
use mathlib.Core.Option.{Option, none, some}
use mathlib.Core.List.Memᴰ
use mathlib.Core.List.{List, [], ◌∷◌, ◌++◌, Memᴰ}
use native.Mathlib.Omega.{arith}
use native.Mathlib.Decide.{dec_lt}
use lib.Dec.{eqb, ltb}
use lib.ListN.{length, get_or}
use borrow.Author.Tests.{ne_eqb, le-ltb}
use Rattle.spec_file.specs.Program.{Program, code_of}
use Rattle.spec_file.specs.WellFormed.{WellFormed, accesses, all_accesses}
use Rattle.spec_schedules.specs.Order.{Schedule}
use Rattle.spec_schedules.specs.System.{run, Allowed}
use Rattle.spec_sc.specs.Local.{takes, place_of}
use Rattle.spec_sc.specs.State as SC
use Rattle.spec_sc.specs.State.{Event, initial_write, Cell, History, latest, noted}
use Rattle.spec_sc.proofs.Access.{next_fewer, begin_law, suffix_accesses}
use Rattle.spec_sc.proofs.Change.{added_read, noted_reads}
use Rattle.spec_sc.proofs.Regular.{latest_of}
use Rattle.spec_sc.proofs.Start as Start
use Rattle.spec_tso.specs.Queue.{Entry, newest, found_in}
use Rattle.spec_tso.specs.State.{Thread, State, Kind, access, move, idle, no_thread, thread_of, cell_of, finds, thread_behind, place, step_of, able, kind_of, owner, step, enabled, start, TSO}
use Rattle.spec_tso.specs.Graph.{end_of}
use Rattle.spec_tso.proofs.Steps.{enabled_able, able_pending, able_range, missing}
use Rattle.spec_tso.proofs.Seen.{drained_thread, run_threads, start_threads}
use Rattle.spec_tso.proofs.Change.{thread_cases, access_done, done_grows}
use Rattle.spec_tso.proofs.StoreOrder.{within_le, within_in}
use Rattle.spec_tso.proofs.Values.{newest_in, Old}
use Rattle.spec_tso.proofs.Regular.{Regular, regular_start, regular_step}
use Rattle.theory_tso.specs.ReadWords.{sources_of, source_digit, digit}
use Rattle.theory_tso.proofs.ReadWords.{Numbered, numbered_noted, Small}

-- since ρ
pub record Kept (ρ σ : State) : Type 0 where
  pub numbered : (t : ℕ) → Numbered (thread_of σ t).history.done (thread_of σ t).history.reads
  pub known : (t : ℕ) (r : ℕ × Event) → Memᴰ r (thread_of σ t).history.reads → Old σ r.1
  pub counted : (t : ℕ) → (thread_of σ t).history.done + accesses (thread_of σ t).local.rest ≤ (thread_of ρ t).history.done + accesses (thread_of ρ t).local.rest

-- what was known stays so
old_stays : (σ : State) (k : Kind) (t : ℕ) → able k (thread_of σ t) (length σ.cells) ≡ true → (e : Event) → Old σ e → Old (step_of σ k t) e
old_stays σ k t m e (inl q) = inl q
old_stays σ k t m e (inr q) = let g = done_grows σ k t (able_range σ k t (length σ.cells) m) e.0 in inr (omega arith)

-- what is in memory is known, and so is what is pending
pub latest_old : (σ : State) → Regular σ → (l : ℕ) → Old σ (latest (cell_of σ l).writes)
latest_old σ g l = go (latest_of (cell_of σ l).writes)
  where
    go : (latest (cell_of σ l).writes ≡ initial_write) ⊎ Memᴰ (latest (cell_of σ l).writes) (cell_of σ l).writes → Old σ (latest (cell_of σ l).writes)
    go (inl q) = inl q
    go (inr i) =
        let e = latest (cell_of σ l).writes in
        let s = g.stores e.0 in
        let a = s.below l e i refl in
        let b = within_le s.floor (thread_of σ e.0).queue (thread_of σ e.0).history.done s.within in
        inr (omega arith)

found_old : (σ : State) → Regular σ → (t l : ℕ) → Old σ (finds t (thread_of σ t) (cell_of σ l)).source
unfolding finds found_in
found_old σ g t l = go (newest (thread_of σ t).queue (place_of (thread_of σ t).local)) refl
  where
    go : (o : Option Entry) → newest (thread_of σ t).queue (place_of (thread_of σ t).local) ≡ o → Old σ (found_in t (newest (thread_of σ t).queue (place_of (thread_of σ t).local)) (cell_of σ l)).source
    go none e = subst (λ (z : Option Entry). Old σ (found_in t z (cell_of σ l)).source) (sym e) (latest_old σ g l)
    go (some x) e =
        let s = g.stores t in
        let w = within_in s.floor (thread_of σ t).queue (thread_of σ t).history.done x s.within (newest_in (thread_of σ t).queue (place_of (thread_of σ t).local) x e).0 in
        subst (λ (z : Option Entry). Old σ (found_in t z (cell_of σ l)).source) (sym e) (inr w.1)

added_in : (b : Bool) (i : ℕ) (e : Event) (r : ℕ × Event) → Memᴰ r (added_read b i e) → r.1 ≡ e
unfolding added_read
added_in true i e r m = ⊎_elim (λ (q : r ≡ (i, e)). ap (λ (x : ℕ × Event). x.1) q) (λ (k : Memᴰ r []). absurd (Memᴰ.not-nil k)) (Memᴰ.cases_cons m)
added_in false i e r m = absurd (Memᴰ.not-nil m)

-- ---- the thread that steps
own_numbered : (k : Kind) (t : ℕ) (h : Thread) (c : Cell) → Numbered h.history.done h.history.reads → Numbered (thread_behind k t h c).history.done (thread_behind k t h c).history.reads
unfolding thread_behind
own_numbered access t h c x = numbered_noted (takes h.local) (finds t h c).source h.history x
own_numbered move t h c x = x

own_known : (σ : State) → Regular σ → (k : Kind) (t : ℕ) → able k (thread_of σ t) (length σ.cells) ≡ true → ((r : ℕ × Event) → Memᴰ r (thread_of σ t).history.reads → Old σ r.1) →
    (r : ℕ × Event) → Memᴰ r (thread_behind k t (thread_of σ t) (cell_of σ (place σ k t))).history.reads → Old (step_of σ k t) r.1
unfolding thread_behind
own_known σ g move t m f r i = old_stays σ move t m r.1 (f r i)
own_known σ g access t m f r i =
    let c = cell_of σ (place σ access t) in
    let h = thread_of σ t in
    ⊎_elim
    (λ (j : Memᴰ r (added_read (takes h.local) h.history.done (finds t h c).source)).
    subst (Old (step_of σ access t)) (sym (added_in (takes h.local) h.history.done (finds t h c).source r j)) (old_stays σ access t m (finds t h c).source (found_old σ g t (place σ access t))))
    (λ (j : Memᴰ r h.history.reads). old_stays σ access t m r.1 (f r j))
    (Memᴰ.append_cases (added_read (takes h.local) h.history.done (finds t h c).source) (subst (Memᴰ r) (noted_reads (takes h.local) (finds t h c).source h.history) i))

own_counted : (k : Kind) (t : ℕ) (h : Thread) (c : Cell) (n : ℕ) → able k h n ≡ true → (thread_behind k t h c).history.done + accesses (thread_behind k t h c).local.rest ≤ h.history.done + accesses h.local.rest
unfolding thread_behind
own_counted access t h c n m = omega (arith, access_done t h c, next_fewer h.local (finds t h c).value (able_pending h n m))
own_counted move t h c n m = omega arith

pub kept_step : (ρ σ : State) (b : ℕ) → Regular σ → enabled σ b ≡ true → Kept ρ σ → Kept ρ (step σ b)
unfolding step
kept_step ρ σ b g ok K =
    let k = kind_of b in
    let t = owner b in
    let m = enabled_able σ b ok in
    let range = able_range σ k t (length σ.cells) m in
    let c = cell_of σ (place σ k t) in
    record {
      numbered = λ u. thread_cases (λ i h. Numbered h.history.done h.history.reads) σ k t range (own_numbered k t (thread_of σ t) c (K.numbered t)) u (λ ne. K.numbered u);
      known = λ u. thread_cases (λ i h. (r : ℕ × Event) → Memᴰ r h.history.reads → Old (step_of σ k t) r.1) σ k t range (own_known σ g k t m (K.known t)) u (λ ne r i. old_stays σ k t m r.1 (K.known u r i));
      counted = λ u. thread_cases (λ i h. h.history.done + accesses h.local.rest ≤ (thread_of ρ i).history.done + accesses (thread_of ρ i).local.rest) σ k t range
          (omega (arith, own_counted k t (thread_of σ t) c (length σ.cells) m, K.counted t)) u (λ ne. K.counted u);
    }

pub kept_run : (v : Schedule) (ρ σ : State) → Regular σ → Allowed TSO σ v → Kept ρ σ → Kept ρ (run TSO σ v)
unfolding run
kept_run [] ρ σ g a K = K
kept_run (b ∷ v) ρ σ g a K = kept_run v ρ (step σ b) (regular_step σ b g a.0) a.1 (kept_step ρ σ b g a.0 K)

-- ---- from the start
pub start_history : (p : Program) (t : ℕ) → (thread_of (start p) t).history ≡ (SC.thread_of (SC.start p) t).history
unfolding start idle
start_history p t = ap (λ (h : Thread). h.history) (drained_thread (SC.start p) t)

pub start_done : (p : Program) (t : ℕ) → ((thread_of (start p) t).history.done ≡ 0) × ((thread_of (start p) t).history.reads ≡ [])
start_done p t =
    let e = start_history p t in
    let s = Start.start_history p t in
    (ap (λ (h : History). h.done) e ∙ s.0, ap (λ (h : History). h.reads) e ∙ s.1)

pub kept_start : (p : Program) → Kept (start p) (start p)
kept_start p = record {
  numbered = λ t. subst (Numbered (thread_of (start p) t).history.done) (sym (start_done p t).1) tt;
  known = λ t r m. absurd (Memᴰ.not-nil (subst (Memᴰ r) (start_done p t).1 m));
  counted = λ t. omega arith;
}

pub kept : (p : Program) → WellFormed p → (v : Schedule) → Allowed TSO (start p) v → Kept (start p) (end_of p v)
kept p w v a = kept_run v (start p) (start p) (regular_start p w) a (kept_start p)
