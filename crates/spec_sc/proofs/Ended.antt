-- Schedules in document 01's words. A thread has ended when its instructions are used up or an assertion of it has failed. Along a run a byte
-- may step exactly when it names a thread that has not ended; and a schedule is full exactly when each of its bytes may step and behind the
-- last all threads have ended.
use Prim.Native.Nat.{ℕ, ◌<◌}
use mathlib.Core.Path.{◌≡◌, refl, sym, ◌∙◌}
use mathlib.Core.Logic.{◌↔◌, ◌⊎◌, inl, inr, ⊎_elim}
use mathlib.Core.Bool.{Bool, true, false, true≢false}
use mathlib.Core.List.{[]}
use native.Mathlib.Omega.{arith}
use lib.ListN.{length}
use Rattle.spec_file.specs.Program.{Program}
use Rattle.spec_file.specs.WellFormed.{WellFormed}
use Rattle.spec_schedules.specs.Order.{Schedule}
use Rattle.spec_schedules.specs.System.{ended, Allowed}
use Rattle.spec_schedules.proofs.Runs.{ended_of, ended_none, full_allowed, allowed_full}
use Rattle.spec_sc.specs.State.{State, thread_of, enabled, SC, start}
use Rattle.spec_sc.specs.Graph.{Full, end_of}
use Rattle.spec_sc.proofs.Access.{Settled, nothing_pending}
use Rattle.spec_sc.proofs.Steps.{enabled_pending, enabled_range, enabled_of, in_range_lem, run_threads}
use Rattle.spec_sc.proofs.Start.{start_threads}
use Rattle.spec_sc.proofs.Halted.{halted}
use Rattle.spec_sc.proofs.Lawful.{lawful}
use Rattle.spec_sc.proofs.Regular.{Regular, regular_run, regular_start}

-- thread t has used up its instructions, or an assertion of it has failed
abbrev pub Ended : State → ℕ → Type 0
Ended σ t = ((thread_of σ t).local.rest ≡ []) ⊎ ((thread_of σ t).local.failed ≡ true)

-- nothing is left of its code
abbrev pub Spent : State → ℕ → Type 0
Spent σ t = (thread_of σ t).local.rest ≡ []

-- along a run that is one thing: a failed assertion leaves no code
ended_spent : (p : Program) (s : Schedule) → Allowed SC (start p) s → (t : ℕ) → Ended (end_of p s) t → Spent (end_of p s) t
ended_spent p s a t e = ⊎_elim (λ (q : Spent (end_of p s) t). q) (halted p s a t) e

pub enabled_running : (σ : State) (t : ℕ) → enabled σ t ≡ true → (t < length σ.threads) × (Spent σ t → ⊥)
enabled_running σ t m = (enabled_range σ t m, λ e. true≢false (sym (enabled_pending σ t m) ∙ nothing_pending (thread_of σ t).local e))

pub running_enabled : (σ : State) → Regular σ → (t : ℕ) → t < length σ.threads → (Spent σ t → ⊥) → enabled σ t ≡ true
running_enabled σ r t h n = go (r.settled t)
  where
    go : Settled (thread_of σ t).local → enabled σ t ≡ true
    go (inl e) = absurd (n e)
    go (inr p) = enabled_of σ t (omega (arith, r.six)) p

-- MAY: behind a schedule each of whose bytes may step, a byte may step exactly when it names a thread that has not ended
pub enabled_exactly : (p : Program) → WellFormed p → (s : Schedule) → Allowed SC (start p) s → (t : ℕ)
    → (enabled (end_of p s) t ≡ true) ↔ ((t < length p.threads) × (Ended (end_of p s) t → ⊥))
enabled_exactly p w s a t =
    let as_many : length (end_of p s).threads ≡ length p.threads = run_threads s (start p) ∙ start_threads p in (
      (λ m. let k = enabled_running (end_of p s) t m in (omega (arith, k.0, as_many), λ e. k.1 (ended_spent p s a t e))),
      (λ k. running_enabled (end_of p s) (regular_run s (start p) (regular_start p w) a) t (omega (arith, k.0, as_many)) (λ e. k.1 (inl e))),
    )

pub ended_all : (σ : State) → Regular σ → ended SC σ ≡ true → (t : ℕ) → Spent σ t
ended_all σ r e t = go (r.settled t)
  where
    go : Settled (thread_of σ t).local → Spent σ t
    go (inl q) = q
    go (inr p) = let h = in_range_lem σ t p in absurd (true≢false (sym (enabled_of σ t (omega (arith, r.six)) p) ∙ ended_none SC lawful σ t e))

pub all_ended : (σ : State) → ((t : ℕ) → t < length σ.threads → Spent σ t) → ended SC σ ≡ true
all_ended σ h = ended_of SC σ (λ t. go t (enabled σ t) refl)
  where
    go : (t : ℕ) (b : Bool) → enabled σ t ≡ b → enabled σ t ≡ false
    go t true e = let k = enabled_running σ t e in absurd (k.1 (h t k.0))
    go t false e = e

-- FULL: each byte may step in its turn, and in the end all threads have ended
pub full_exactly : (p : Program) → WellFormed p → (s : Schedule) → Full p s ↔ (Allowed SC (start p) s × ((t : ℕ) → t < length p.threads → Ended (end_of p s) t))
full_exactly p w s =
    let as_many : length (end_of p s).threads ≡ length p.threads = run_threads s (start p) ∙ start_threads p in (
      (λ f.
          let a = full_allowed SC (start p) s f in
          (a.0, λ t h. inl (ended_all (end_of p s) (regular_run s (start p) (regular_start p w) a.0) a.1 t))),
      (λ k. allowed_full SC (start p) s k.0 (all_ended (end_of p s) (λ t h. ended_spent p s k.0 t (k.1 t (omega (arith, h, as_many)))))),
    )
