-- Behind a run of a program: threads that are one, or twinned, are tied. That is an equivalence, since a source is never a quiet thread's except its own. An
-- exchange that moves each thread to one tied to it leaves the state as it is.
use Prim.Native.Nat.{ℕ, ◌<◌}
use mathlib.Core.Path.{◌≡◌, refl, sym, ap, ap₂, subst, ◌∙◌}
use mathlib.Core.Logic.{◌≢◌, ◌⊎◌, inl, inr}
use mathlib.Core.List.{List, [], ◌∷◌, Memᴰ}
use native.Mathlib.Omega.{arith}
use native.Mathlib.Decide.{ℕ_discrete}
use lib.ListN.{length}
use Rattle.spec_file.specs.Program.{Program}
use Rattle.spec_file.specs.WellFormed.{WellFormed}
use Rattle.spec_schedules.specs.Order.{Schedule}
use Rattle.spec_schedules.specs.System.{Allowed}
use Rattle.spec_model.specs.Exchange.{Exchange}
use Rattle.spec_model.proofs.Swapped.{swapped, swapped_low, swapped_high, swapped_else, swapped_cases}
use Rattle.spec_sc.specs.State.{Event, Cell, initial_write}
use Rattle.spec_sc.specs.Exchange.{moved_event, moved_read, moved_reads}
use Rattle.spec_sc.proofs.FixedState.{cell_of_lem, event_fixed, reads_fixed, cells_fixed}
use Rattle.spec_tso.specs.State.{Thread, State, TSO, without_queues, thread_of, cell_of, start}
use Rattle.spec_tso.specs.Graph.{end_of}
use Rattle.spec_tso.specs.Exchange.{moved_thread, Moves}
use Rattle.spec_tso.proofs.Seen.{seen_cell, run_threads, start_threads}
use Rattle.spec_tso.proofs.Sourced.{From, sourced}
use Rattle.spec_tso.proofs.Laws.{within}
use Rattle.theory_tso.proofs.Twins.{from_other}
use Rattle.theory_tso.proofs.Twinned.{Quiet, Tw}
use Rattle.theory_tso.proofs.TwinTest.{quiet_silence}

-- ---- threads renamed, by what the names do to their sources
abbrev with_reads : Thread → List (ℕ × Event) → Thread
with_reads h rs = record { local = h.local; history = record { done = h.history.done; reads = rs }; queue = h.queue }

reads_by : (ρ π : ℕ → ℕ) (rs : List (ℕ × Event)) → ((r : ℕ × Event) → Memᴰ r rs → ρ r.1.0 ≡ π r.1.0) → moved_reads ρ rs ≡ moved_reads π rs
unfolding moved_reads moved_read moved_event
reads_by ρ π [] h = refl
reads_by ρ π (r ∷ rs) h = ap₂ (λ (x : ℕ) (xs : List (ℕ × Event)). let z : List (ℕ × Event) = (r.0, (x, r.1.1)) ∷ xs in z) (h r (Memᴰ.head refl)) (reads_by ρ π rs (λ x m. h x (Memᴰ.tail m)))

reads_both : (ρ π : ℕ → ℕ) (rs : List (ℕ × Event)) → moved_reads ρ (moved_reads π rs) ≡ moved_reads (λ x. ρ (π x)) rs
unfolding moved_reads moved_read moved_event
reads_both ρ π [] = refl
reads_both ρ π (r ∷ rs) = ap (λ (xs : List (ℕ × Event)). let z : List (ℕ × Event) = (r.0, (ρ (π r.1.0), r.1.1)) ∷ xs in z) (reads_both ρ π rs)

moved_by : (ρ π : ℕ → ℕ) (h : Thread) → ((r : ℕ × Event) → Memᴰ r h.history.reads → ρ r.1.0 ≡ π r.1.0) → moved_thread ρ h ≡ moved_thread π h
unfolding moved_thread
moved_by ρ π h k = ap (with_reads h) (reads_by ρ π h.history.reads k)

moved_both : (ρ π : ℕ → ℕ) (h : Thread) → moved_thread ρ (moved_thread π h) ≡ moved_thread (λ x. ρ (π x)) h
unfolding moved_thread
moved_both ρ π h = ap (with_reads h) (reads_both ρ π h.history.reads)

moved_fixed : (π : ℕ → ℕ) (h : Thread) → ((r : ℕ × Event) → Memᴰ r h.history.reads → π r.1.0 ≡ r.1.0) → moved_thread π h ≡ h
unfolding moved_thread
moved_fixed π h k = ap (with_reads h) (reads_fixed π h.history.reads (λ r m. event_fixed π r.1 (k r m)))

module _ (p : Program) (wf : WellFormed p) (w : Schedule) (al : Allowed TSO (start p) w) where
  abbrev E : State
  E = end_of p w

  -- one thread, or two of the six that are twinned
  abbrev pub Tied : ℕ → ℕ → Type 0
  Tied a b = (a ≡ b) ⊎ ((a ≢ b) × (a < 6) × (b < 6) × Tw (end_of p w) a b)

  -- a source is no quiet thread's but its own
  foreign : (u x : ℕ) → u < 6 → x ≢ u → Quiet E u → (r : ℕ × Event) → Memᴰ r (thread_of E x).history.reads → r.1.0 ≢ u
  foreign u x h ne q r m = from_other E u x r.1 h ne (quiet_silence E u q) (sourced p wf w al x r m)

  pub tied_sym : (a b : ℕ) → Tied a b → Tied b a
  tied_sym a b (inl e) = inl (sym e)
  tied_sym a b (inr k) = inr ((λ e. k.0 (sym e)), k.2, k.1, (thread, k.3.2, k.3.1))
    where
      twice : (x : ℕ) → swapped b a (swapped a b x) ≡ x
      twice = swapped_cases a b k.0 (λ x y. swapped b a y ≡ x) (swapped_low b a (λ e. k.0 (sym e))) (swapped_high b a (λ e. k.0 (sym e))) (λ x i j. swapped_else b a (λ e. k.0 (sym e)) x j i)

      thread : thread_of (end_of p w) a ≡ moved_thread (swapped b a) (thread_of (end_of p w) b)
      thread = sym (ap (moved_thread (swapped b a)) k.3.0 ∙ moved_both (swapped b a) (swapped a b) (thread_of E a) ∙ moved_fixed (λ x. swapped b a (swapped a b x)) (thread_of E a) (λ r m. twice r.1.0))

  pub tied_trans : (a b c : ℕ) → Tied a b → Tied b c → Tied a c
  tied_trans a b c (inl e) l = subst (λ (i : ℕ). Tied i c) (sym e) l
  tied_trans a b c (inr k) (inl e) = subst (Tied a) e (inr k)
  tied_trans a b c (inr k) (inr l) = go (ℕ_discrete a c)
    where
      go : Dec (a ≡ c) → Tied a c
      go (yes e) = inl e
      go (no e) = inr (e, k.1, l.2, (thread, k.3.1, l.3.2))
        where
          at : (x : ℕ) → x ≢ b → x ≢ c → Dec (x ≡ a) → swapped b c (swapped a b x) ≡ swapped a c x
          at x i j (yes q) =
              ap (λ (y : ℕ). swapped b c (swapped a b y)) q ∙ ap (swapped b c) (swapped_low a b k.0) ∙ swapped_low b c l.0 ∙ sym (ap (swapped a c) q ∙ swapped_low a c e)
          at x i j (no q) = ap (swapped b c) (swapped_else a b k.0 x q i) ∙ swapped_else b c l.0 x i j ∙ sym (swapped_else a c e x q j)

          thread : thread_of (end_of p w) c ≡ moved_thread (swapped a c) (thread_of (end_of p w) a)
          thread =
              l.3.0 ∙ ap (moved_thread (swapped b c)) k.3.0 ∙ moved_both (swapped b c) (swapped a b) (thread_of E a)
              ∙ moved_by (λ x. swapped b c (swapped a b x)) (swapped a c) (thread_of E a)
              (λ r m. at r.1.0 (foreign b a k.2 k.0 k.3.2 r m) (foreign c a l.2 e l.3.2 r m) (ℕ_discrete r.1.0 a))

  -- THE STATE STAYS
  module _ (π : ℕ → ℕ) (x : Exchange p π) (tied : (t : ℕ) → Tied t (π t)) where
    unmoved : (l : ℕ) (e : Event) → Memᴰ e (cell_of E l).writes → π e.0 ≡ e.0
    unmoved l e m = go (tied e.0)
      where
        go : Tied e.0 (π e.0) → π e.0 ≡ e.0
        go (inl q) = sym q
        go (inr k) = absurd (k.3.1 l e.1 m)

    source_fixed : (t : ℕ) (e : Event) → e.0 ≢ t → From E t e → π e.0 ≡ e.0
    unfolding initial_write
    source_fixed t e ne (inl q) = absurd (ne q)
    source_fixed t e ne (inr (inl q)) = x.0.stays e.0 (omega (arith, ap (λ (y : Event). y.0) q))
    source_fixed t e ne (inr (inr m)) = unmoved m.0 e m.1

    thread_fixed : (t : ℕ) → Tied t (π t) → thread_of (end_of p w) (π t) ≡ moved_thread π (thread_of (end_of p w) t)
    thread_fixed t (inl e) = ap (thread_of E) (sym e) ∙ sym (moved_fixed π (thread_of E t) (λ r m. at r m (ℕ_discrete r.1.0 t)))
      where
        at : (r : ℕ × Event) → Memᴰ r (thread_of E t).history.reads → Dec (r.1.0 ≡ t) → π r.1.0 ≡ r.1.0
        at r m (yes q) = ap π q ∙ sym e ∙ sym q
        at r m (no q) = source_fixed t r.1 q (sourced p wf w al t r m)
    thread_fixed t (inr k) = k.3.0 ∙ moved_by (swapped t (π t)) π (thread_of E t) (λ r m. at r m (ℕ_discrete r.1.0 t))
      where
        at : (r : ℕ × Event) → Memᴰ r (thread_of E t).history.reads → Dec (r.1.0 ≡ t) → swapped t (π t) r.1.0 ≡ π r.1.0
        at r m (yes q) = ap (swapped t (π t)) q ∙ swapped_low t (π t) k.0 ∙ ap π (sym q)
        at r m (no q) = swapped_else t (π t) k.0 r.1.0 q (foreign (π t) t k.2 k.0 k.3.2 r m) ∙ sym (source_fixed t r.1 q (sourced p wf w al t r m))

    end_threads : length E.threads ≡ length p.threads
    end_threads = run_threads w (start p) ∙ start_threads p

    pub fixed_end : Moves π (end_of p w) (end_of p w)
    unfolding without_queues
    fixed_end = record {
      threads = λ t. thread_fixed t (tied t);
      cells = cells_fixed π E.cells (λ c m e i.
          let l = cell_of_lem (without_queues E) c m in
          event_fixed π e (unmoved l.0 e (subst (λ (k : Cell). Memᴰ e k.writes) (sym (sym (seen_cell E l.0) ∙ l.1)) i)));
      within = λ t h. let k = within p wf π x t (omega (arith, h, end_threads)) in omega (arith, k, end_threads);
    }
