-- Which events of a run are done, and that histories only grow along it: reads and writes of a step stand in front of the older ones.
use Prim.Native.Nat.{ℕ, suc, ◌+◌, ◌<◌, ◌≤◌}
use mathlib.Core.Path.{◌≡◌, refl, sym, ap, ap₂, subst, ◌∙◌}
use mathlib.Core.Logic.{◌⊎◌, inl, inr}
use mathlib.Core.Bool.{true}
use mathlib.Core.List.{List, [], ◌∷◌}
use native.Mathlib.Omega.{arith}
use native.Mathlib.Decide.{ℕ_discrete, dec_lt}
use lib.ListN.{length}
use Rattle.spec_file.specs.Program.{Program, code_of}
use Rattle.spec_file.specs.declared.instruction.Instruction.{Instruction}
use Rattle.spec_schedules.specs.Order.{Schedule}
use Rattle.spec_schedules.specs.System.{run, Allowed}
use Rattle.spec_sc.specs.Local.{takes}
use Rattle.spec_sc.specs.State.{Event, Thread, Cell, State, no_thread, thread_of, cell_of, place, latest, advanced, step, enabled, SC, opened, start}
use Rattle.spec_sc.proofs.Suffix.{Suffix, suffix_same, suffix_nil, suffix_trans}
use Rattle.spec_sc.proofs.Access.{next_suffix, begin_law}
use Rattle.spec_sc.proofs.Steps.{enabled_pending, enabled_range, missing, thread_other}
use Rattle.spec_sc.proofs.Change.{thread_cases, added_read, noted_done, noted_reads, done_own, done_grows, Change, kept, wrote}
use Rattle.spec_sc.proofs.Start.{start_thread, start_threads}
use Rattle.spec_sc.proofs.Regular.{Regular, changes, regular_step}

-- the event that thread t's next step does
abbrev pub upcoming : State → ℕ → Event
upcoming σ t = (t, (thread_of σ t).history.done)

abbrev pub Done : State → Event → Type 0
Done σ e = e.1 < (thread_of σ e.0).history.done

pub upcoming_undone : (σ : State) (t : ℕ) → Done σ (upcoming σ t) → ⊥
upcoming_undone σ t d = omega arith

no_thread_done : no_thread.history.done ≡ 0
unfolding no_thread
no_thread_done = refl

-- an event that was done is that of a thread that exists
pub done_exists : (σ : State) (e : Event) → Done σ e → e.0 < length σ.threads
done_exists σ e h = go (dec_lt e.0 (length σ.threads))
  where
    go : Dec (e.0 < length σ.threads) → e.0 < length σ.threads
    go (yes k) = k
    go (no k) = absurd (omega (arith, ap (λ (x : Thread). x.history.done) (missing σ e.0 (omega arith)), no_thread_done))

-- a step does the upcoming event of its thread, and no other
module _ (σ : State) (t : ℕ) (m : enabled σ t ≡ true) where
  pub done_more : (e : Event) → Done σ e → Done (step σ t) e
  done_more e d = omega (arith, done_grows σ t (enabled_range σ t m) e.0)

  pub done_new : Done (step σ t) (upcoming σ t)
  done_new = omega (arith, done_own σ t (enabled_range σ t m))

  pub done_cases : (e : Event) → Done (step σ t) e → Done σ e ⊎ (e ≡ upcoming σ t)
  done_cases e d = go (ℕ_discrete e.0 t) (dec_lt e.1 (thread_of σ e.0).history.done)
    where
      own : e.0 ≡ t → e.1 < suc (thread_of σ t).history.done
      own q = subst (λ (n : ℕ). e.1 < n) (ap (λ (u : ℕ). (thread_of (step σ t) u).history.done) q ∙ done_own σ t (enabled_range σ t m)) d

      go : Dec (e.0 ≡ t) → Dec (Done σ e) → Done σ e ⊎ (e ≡ upcoming σ t)
      go q (yes h) = inl h
      go (no q) (no h) = absurd (h (subst (λ (k : Thread). e.1 < k.history.done) (thread_other σ t e.0 q) d))
      go (yes q) (no h) =
          let k = own q in
          let j = ap (λ (u : ℕ). (thread_of σ u).history.done) q in
          inr (ap₂ (λ (a b : ℕ). let x : Event = (a, b) in x) q (omega arith))

-- the counts of accesses done only grow, by at most one a step
pub done_run : (z : Schedule) (σ : State) → Allowed SC σ z → (u : ℕ) → (thread_of σ u).history.done ≤ (thread_of (run SC σ z) u).history.done
unfolding run
done_run [] σ a u = omega arith
done_run (t ∷ z) σ a u = omega (arith, done_grows σ t (enabled_range σ t a.0) u, done_run z (step σ t) a.1 u)

pub done_length : (z : Schedule) (σ : State) → Allowed SC σ z → (u : ℕ) → (thread_of (run SC σ z) u).history.done ≤ (thread_of σ u).history.done + length z
unfolding run advanced
done_length [] σ a u = omega arith
done_length (t ∷ z) σ a u =
    let ih = done_length z (step σ t) a.1 u in
    let k = thread_cases (λ j h. h.history.done ≤ suc (thread_of σ j).history.done) σ t (enabled_range σ t a.0)
    (let e = noted_done (takes (thread_of σ t).local) (latest (cell_of σ (place σ t)).writes) (thread_of σ t).history in omega arith) u (λ ne. omega arith) in
    omega arith

-- reads and writes of a step stand in front of the older ones
pub step_row : (σ : State) (t : ℕ) → enabled σ t ≡ true → (u : ℕ) → Suffix (thread_of σ u).history.reads (thread_of (step σ t) u).history.reads
unfolding advanced
step_row σ t m u = thread_cases (λ k h. Suffix (thread_of σ k).history.reads h.history.reads) σ t (enabled_range σ t m)
    (added_read (takes (thread_of σ t).local) (thread_of σ t).history.done (latest (cell_of σ (place σ t)).writes), noted_reads _ _ (thread_of σ t).history) u (λ ne. suffix_same _)

pub step_order : (σ : State) → Regular σ → (t l : ℕ) → Suffix (cell_of σ l).writes (cell_of (step σ t) l).writes
step_order σ r t l = go (changes σ r t l)
  where
    go : Change σ t l → Suffix (cell_of σ l).writes (cell_of (step σ t) l).writes
    go (kept q) = ([], ap (λ (c : Cell). c.writes) q)
    go (wrote q v e w y) = (upcoming σ t ∷ [], w)

pub run_row : (z : Schedule) (σ : State) → Allowed SC σ z → (u : ℕ) → Suffix (thread_of σ u).history.reads (thread_of (run SC σ z) u).history.reads
unfolding run
run_row [] σ a u = suffix_same _
run_row (t ∷ z) σ a u = suffix_trans (step_row σ t a.0 u) (run_row z (step σ t) a.1 u)

pub run_order : (z : Schedule) (σ : State) → Regular σ → Allowed SC σ z → (l : ℕ) → Suffix (cell_of σ l).writes (cell_of (run SC σ z) l).writes
unfolding run
run_order [] σ r a l = suffix_same _
run_order (t ∷ z) σ r a l = suffix_trans (step_order σ r t l) (run_order z (step σ t) (regular_step σ t r a.0) a.1 l)

-- what is left of a thread's code is an end of what was left, so of its code
pub rest_run : (z : Schedule) (σ : State) → Allowed SC σ z → (u : ℕ) → Suffix (thread_of (run SC σ z) u).local.rest (thread_of σ u).local.rest
unfolding run advanced
rest_run [] σ a u = suffix_same (thread_of σ u).local.rest
rest_run (t ∷ z) σ a u = suffix_trans (rest_run z (step σ t) a.1 u)
    (thread_cases (λ k h. Suffix h.local.rest (thread_of σ k).local.rest) σ t (enabled_range σ t a.0) (next_suffix (thread_of σ t).local _ (enabled_pending σ t a.0)) u (λ ne. suffix_same (thread_of σ u).local.rest))

no_thread_rest : no_thread.local.rest ≡ []
unfolding no_thread
no_thread_rest = refl

rest_start : (p : Program) (u : ℕ) → Suffix (thread_of (start p) u).local.rest (code_of p u)
unfolding opened
rest_start p u = go (dec_lt u (length p.threads))
  where
    go : Dec (u < length p.threads) → Suffix (thread_of (start p) u).local.rest (code_of p u)
    go (yes h) = subst (λ (k : Thread). Suffix k.local.rest (code_of p u)) (sym (start_thread p u h)) (begin_law (code_of p u)).1
    go (no h) =
        let s = start_threads p in
        subst (λ (k : List Instruction). Suffix k (code_of p u)) (sym (ap (λ (k : Thread). k.local.rest) (missing (start p) u (omega arith)) ∙ no_thread_rest)) (suffix_nil (code_of p u))

pub rest_code : (p : Program) (s : Schedule) → Allowed SC (start p) s → (u : ℕ) → Suffix (thread_of (run SC (start p) s) u).local.rest (code_of p u)
rest_code p s a u = suffix_trans (rest_run s (start p) a u) (rest_start p u)
