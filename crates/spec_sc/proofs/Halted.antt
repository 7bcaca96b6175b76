-- A failed assertion leaves no code: a thread that failed never steps again, so a run that failed stays so.
use Prim.Native.Nat.{ℕ, zero, suc}
use mathlib.Core.Path.{◌≡◌, refl, sym, ap, subst, ◌∙◌}
use mathlib.Core.Logic.{◌≢◌}
use mathlib.Core.Bool.{true, true≢false, false≢true}
use mathlib.Core.List.{List, [], ◌∷◌}
use Rattle.spec_file.specs.Program.{Program}
use Rattle.spec_file.specs.declared.instruction.Instruction.{Instruction}
use Rattle.spec_file.specs.declared.instruction.Instruction.TheVariants.{Memory, Alone}
use Rattle.spec_schedules.specs.Order.{Schedule}
use Rattle.spec_schedules.specs.System.{run, Allowed}
use Rattle.spec_sc.specs.Local.{Local, access_sets, Outcome, continues, stops, outcome, settle, begins_with_access, first_next, pending, next, begin}
use Rattle.spec_sc.specs.State.{State, no_thread, thread_of, advanced, step, enabled, SC, opened, start, failed_of, fails}
use Rattle.spec_sc.specs.Graph.{end_of}
use Rattle.spec_sc.proofs.Access.{settle_continues, settle_stops, nothing_pending}
use Rattle.spec_sc.proofs.Steps.{enabled_pending, enabled_range, thread_other}
use Rattle.spec_sc.proofs.Change.{thread_cases}
use Rattle.spec_sc.proofs.Start.{start_cases, everyone}
use Rattle.spec_sc.proofs.Failing.{fails_at, fails_of}

-- a thread that failed has no code left
abbrev pub Halts : Local → Type 0
Halts h = h.failed ≡ true → h.rest ≡ []

settle_halts : (is : List Instruction) (k : ℕ) (rs : List ℕ) → Halts (settle k rs is)
unfolding settle
settle_halts [] k rs e = refl
settle_halts (i ∷ is) (suc k) rs e = settle_halts is k rs e
settle_halts (Memory a ∷ is) zero rs e = absurd (false≢true e)
settle_halts (Alone o ∷ is) zero rs e = go (outcome rs o) refl (settle_halts is) e
  where
    go : (x : Outcome) → outcome rs o ≡ x → ((k : ℕ) (ss : List ℕ) → Halts (settle k ss is)) → Halts (settle zero rs (Alone o ∷ is))
    go (continues ss k) q ih = subst Halts (sym (settle_continues o is rs ss k q)) (ih k ss)
    go stops q ih = subst Halts (sym (settle_stops o is rs q)) (λ k. refl)

next_halts : (h : Local) (is : List Instruction) (x : ℕ) → begins_with_access is ≡ true → Halts (first_next h is x)
unfolding begins_with_access first_next
next_halts h [] x b = absurd (false≢true b)
next_halts h (Memory a ∷ is) x b = settle_halts is 0 (access_sets h.registers a x)
next_halts h (Alone o ∷ is) x b = absurd (false≢true b)

-- behind its next access
pub access_halts : (h : Local) (x : ℕ) → pending h ≡ true → Halts (next h x)
unfolding next pending
access_halts h x e = next_halts h h.rest x e

halts_step : (σ : State) (t : ℕ) → enabled σ t ≡ true → ((u : ℕ) → Halts (thread_of σ u).local) → (u : ℕ) → Halts (thread_of (step σ t) u).local
unfolding advanced
halts_step σ t m h u = thread_cases (λ k x. Halts x.local) σ t (enabled_range σ t m) (access_halts (thread_of σ t).local _ (enabled_pending σ t m)) u (λ ne. h u)

pub halts_start : (p : Program) (u : ℕ) → Halts (thread_of (start p) u).local
unfolding no_thread opened begin
halts_start p = start_cases p (λ c. Unit {0}) (λ h. Halts h.local) (λ e. refl) (λ c k. settle_halts c 0 _) (everyone p.threads)

halts_run : (s : Schedule) (σ : State) → Allowed SC σ s → ((u : ℕ) → Halts (thread_of σ u).local) → (u : ℕ) → Halts (thread_of (run SC σ s) u).local
unfolding run
halts_run [] σ a h = h
halts_run (t ∷ s) σ a h = halts_run s (step σ t) a.1 (halts_step σ t a.0 h)

-- along a run a failed assertion of a thread leaves it no code
pub halted : (p : Program) (s : Schedule) → Allowed SC (start p) s → (t : ℕ) → (thread_of (end_of p s) t).local.failed ≡ true → (thread_of (end_of p s) t).local.rest ≡ []
halted p s a = halts_run s (start p) a (halts_start p)

-- A FAILED RUN STAYS FAILED
pub stays_failed : (p : Program) (s : Schedule) (t : ℕ) → Allowed SC (start p) s → enabled (end_of p s) t ≡ true → fails (end_of p s) ≡ true → fails (step (end_of p s) t) ≡ true
unfolding failed_of
stays_failed p s t a m e =
    let σ : State = end_of p s in
    let r = fails_at σ e in
    let stopped = nothing_pending (thread_of σ r.0).local (halted p s a r.0 r.1) in
    let ne : r.0 ≢ t = λ q. true≢false (sym (enabled_pending σ t m) ∙ ap (λ (u : ℕ). pending (thread_of σ u).local) (sym q) ∙ stopped) in
    fails_of (step σ t) r.0 (ap failed_of (thread_other σ t r.0 ne) ∙ r.1)
