-- A failed run stays failed: a failed assertion leaves its thread no code, so no access of it follows, and a move keeps local states.
use Prim.Native.Nat.{ℕ}
use mathlib.Core.Path.{◌≡◌, sym, ap, subst, ◌∙◌}
use mathlib.Core.Bool.{true, true≢false}
use lib.ListN.{length}
use Rattle.spec_file.specs.Program.{Program}
use Rattle.spec_file.specs.WellFormed.{WellFormed}
use Rattle.spec_schedules.specs.Order.{Schedule}
use Rattle.spec_schedules.specs.System.{Allowed}
use Rattle.spec_sc.specs.State as SC
use Rattle.spec_sc.proofs.Access.{nothing_pending}
use Rattle.spec_sc.proofs.Failing as SCFailing
use Rattle.spec_tso.specs.State.{Thread, State, Kind, access, unqueued, without_queues, thread_of, able, kind_of, owner, step, enabled, TSO, start, fails}
use Rattle.spec_tso.specs.Graph.{end_of}
use Rattle.spec_tso.proofs.Steps.{enabled_able, able_pending}
use Rattle.spec_tso.proofs.Seen.{seen_thread}
use Rattle.spec_tso.proofs.Regular.{Regular, regular_run, regular_start}
use Rattle.spec_tso.proofs.Reading.{step_of_core}

-- some thread failed
fails_at : (σ : State) → fails σ ≡ true → (t : ℕ) × ((thread_of σ t).local.failed ≡ true)
unfolding fails SC.failed_of unqueued
fails_at σ e = let r = SCFailing.fails_at (without_queues σ) e in (r.0, ap (λ (h : SC.Thread). h.local.failed) (sym (seen_thread σ r.0)) ∙ r.1)

fails_of : (σ : State) (t : ℕ) → (thread_of σ t).local.failed ≡ true → fails σ ≡ true
unfolding fails SC.failed_of unqueued
fails_of σ t e = SCFailing.fails_of (without_queues σ) t (ap (λ (h : SC.Thread). h.local.failed) (seen_thread σ t) ∙ e)

-- a thread that failed does no access
failed_waits : (σ : State) → Regular σ → (k : Kind) (t u : ℕ) → able k (thread_of σ t) (length σ.cells) ≡ true → (thread_of σ u).local.failed ≡ true → k ≡ access → u ≡ t → ⊥
failed_waits σ r k t u m e q i =
    let a = subst (λ (x : Kind). able x (thread_of σ t) (length σ.cells) ≡ true) q m in
    let b = able_pending (thread_of σ u) (length σ.cells) (subst (λ (x : ℕ). able access (thread_of σ x) (length σ.cells) ≡ true) (sym i) a) in
    true≢false (sym b ∙ nothing_pending (thread_of σ u).local (r.halts u e))

-- A FAILED RUN STAYS FAILED
pub stays_failed : (p : Program) → WellFormed p → (s : Schedule) (b : ℕ) → Allowed TSO (start p) s → enabled (end_of p s) b ≡ true → fails (end_of p s) ≡ true → fails (step (end_of p s) b) ≡ true
unfolding step
stays_failed p w s b a m e =
    let σ : State = end_of p s in
    let r = fails_at σ e in
    let able-b = enabled_able σ b m in
    let core = step_of_core σ (kind_of b) (owner b) r.0 able-b (failed_waits σ (regular_run s (start p) (regular_start p w) a) (kind_of b) (owner b) r.0 able-b r.1) in
    fails_of (step σ b) r.0 (ap (λ h. h.failed) core.0 ∙ r.1)
