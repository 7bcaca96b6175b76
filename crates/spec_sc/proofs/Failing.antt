-- A state fails when one of its threads did, so exchanging threads keeps whether it fails: a permitted permutation keeps the outcome of a full
-- schedule, failing and memory.
use Prim.Native.Nat.{ℕ, zero, suc, ◌<◌}
use mathlib.Core.Path.{◌≡◌, refl, sym, ap, ◌∙◌}
use mathlib.Core.Bool.{Bool, true, false, true≢false, false≢true}
use mathlib.Core.List.{List, [], ◌∷◌, Memᴰ}
use native.Mathlib.Omega.{arith}
use native.Mathlib.Decide.{dec_lt}
use native.Mathlib.Nat.{not-suc-le-zero, le_of_suc-le-suc}
use lib.ListN.{length, get_or}
use Rattle.spec_file.specs.Program.{Program}
use Rattle.spec_file.specs.WellFormed.{WellFormed}
use Rattle.spec_schedules.specs.Order.{Schedule}
use Rattle.spec_schedules.specs.Lists.{any}
use Rattle.spec_schedules.proofs.Lists.{any_yes, any_of}
use Rattle.spec_sc.specs.State.{Thread, State, no_thread, thread_of, failed_of, fails, memory_of}
use Rattle.spec_sc.specs.Graph.{Full, end_of}
use Rattle.spec_model.specs.Exchange.{Permutation, Permitted}
use Rattle.spec_sc.proofs.ExchangeTerms.{moved_schedule}
use Rattle.spec_sc.specs.Exchange.{moved_thread, Moves}
use Rattle.spec_sc.proofs.Steps.{missing}
use Rattle.spec_sc.proofs.Exchange.{moves_memory}
use Rattle.spec_sc.proofs.Permitted.{exchanged}

at_number : {A : Type 0} (x : A) (l : List A) (d : A) → Memᴰ x l → (t : ℕ) × (get_or l t d ≡ x)
at_number x l d (Memᴰ.head e) = (0, sym e)
at_number x l d (Memᴰ.tail {xs = k} m) = let r = at_number x k d m in (suc r.0, r.1)

among : {A : Type 0} (l : List A) (t : ℕ) (d : A) → t < length l → Memᴰ (get_or l t d) l
among [] t d h = absurd (not-suc-le-zero h)
among (x ∷ l) zero d h = Memᴰ.head refl
among (x ∷ l) (suc t) d h = Memᴰ.tail (among l t d (le_of_suc-le-suc h))

-- some thread failed
pub fails_at : (σ : State) → fails σ ≡ true → (t : ℕ) × (failed_of (thread_of σ t) ≡ true)
unfolding fails thread_of
fails_at σ e =
    let r = any_yes failed_of σ.threads e in
    let k = at_number r.0 σ.threads no_thread r.1 in
    (k.0, ap failed_of k.1 ∙ r.2)

no_thread_lem : failed_of no_thread ≡ false
unfolding failed_of no_thread
no_thread_lem = refl

pub fails_of : (σ : State) (t : ℕ) → failed_of (thread_of σ t) ≡ true → fails σ ≡ true
unfolding fails thread_of
fails_of σ t e = go (dec_lt t (length σ.threads))
  where
    go : Dec (t < length σ.threads) → any failed_of σ.threads ≡ true
    go (yes h) = any_of failed_of σ.threads (thread_of σ t) (among σ.threads t no_thread h) e
    go (no h) = absurd (false≢true (sym no_thread_lem ∙ ap failed_of (sym (missing σ t (omega arith))) ∙ e))

moves_failed : (π : ℕ → ℕ) (σ τ : State) → Moves π σ τ → (t : ℕ) → failed_of (thread_of τ (π t)) ≡ failed_of (thread_of σ t)
unfolding failed_of moved_thread
moves_failed π σ τ m t = ap (λ (h : Thread). h.local.failed) (m.threads t)

pub moves_fails : (π : ℕ → ℕ) → Permutation π → (σ τ : State) → Moves π σ τ → fails τ ≡ fails σ
moves_fails π q σ τ m = go (fails σ) refl (fails τ) refl
  where
    same : (t : ℕ) → failed_of (thread_of τ (π t)) ≡ failed_of (thread_of σ t)
    same t = moves_failed π σ τ m t

    go : (b : Bool) → fails σ ≡ b → (c : Bool) → fails τ ≡ c → fails τ ≡ fails σ
    go true e c k = let r = fails_at σ e in fails_of τ (π r.0) (same r.0 ∙ r.1) ∙ sym e
    go false e true k =
        let r = fails_at τ k in
        absurd (true≢false (sym (fails_of σ (q.inverse r.0) (sym (same (q.inverse r.0)) ∙ ap (λ (u : ℕ). failed_of (thread_of τ u)) (q.after_inverse r.0) ∙ r.1)) ∙ e))
    go false e false k = k ∙ sym e

pub exchanged_outcome : (p : Program) → WellFormed p → (π : ℕ → ℕ) → Permutation π → Permitted p π → (s : Schedule) → Full p s →
    (fails (end_of p (moved_schedule π s)) ≡ fails (end_of p s)) × (memory_of (end_of p (moved_schedule π s)) ≡ memory_of (end_of p s))
exchanged_outcome p w π q m s f =
    let r = (exchanged p w π m q s f).1 in
    (moves_fails π q (end_of p s) (end_of p (moved_schedule π s)) r, moves_memory π (end_of p s) (end_of p (moved_schedule π s)) r)
