-- A thread whose next access nothing left to the others could conflict with: it is free of every step until its turn.
use Prim.Native.Nat.{ℕ}
use mathlib.Core.Path.{◌≡◌, refl, ap}
use mathlib.Core.Logic.{◌≢◌, ◌⊎◌, inl, inr, Ne-symm}
use mathlib.Core.Bool.{true, false}
use mathlib.Core.Option.{none}
use mathlib.Core.List.{[], ◌∷◌, Memᴰ}
use Rattle.spec_schedules.specs.Order.{Schedule}
use Rattle.spec_schedules.specs.System.{run, Allowed}
use Rattle.spec_schedules.proofs.Front.{Free}
use Rattle.spec_sc.specs.Local.{place_of, puts}
use Rattle.spec_sc.specs.State.{State, thread_of, cell_of, place, step, enabled, SC}
use Rattle.spec_sc.specs.Actions.{given, writes}
use Rattle.theory_search.specs.Ahead.{may_write, could_meet}
use Rattle.spec_sc.proofs.Steps.{enabled_pending, thread_other, place_other}
use Rattle.spec_sc.proofs.Swap.{Independent}
use Rattle.spec_sc.proofs.Histories.{rest_run}
use Rattle.theory_search.proofs.Ahead.{puts_not, elsewhere, meet_end}

-- nothing left to u could conflict with t's next access
abbrev pub Unmet : State → ℕ → ℕ → Type 0
Unmet σ t u = could_meet (place σ t) (may_write (thread_of σ t).local) (thread_of σ u).local ≡ false

writes_not : (σ : State) (t : ℕ) → ((x : ℕ) → puts (thread_of σ t).local x ≡ none) → writes σ t ≡ false
unfolding writes given
writes_not σ t h = ap given (h (cell_of σ (place σ t)).value)

unmet_independent : (σ : State) (a t : ℕ) → enabled σ a ≡ true → Unmet σ t a → Independent σ a t
unfolding place
unmet_independent σ a t m r = go (elsewhere (place σ t) (may_write (thread_of σ t).local) (thread_of σ a).local (enabled_pending σ a m) r)
  where
    go : (place_of (thread_of σ a).local ≢ place σ t) ⊎ ((may_write (thread_of σ t).local ≡ false) × ((x : ℕ) → puts (thread_of σ a).local x ≡ none)) → Independent σ a t
    go (inl q) = inl q
    go (inr q) = inr (writes_not σ a q.1, writes_not σ t (puts_not (thread_of σ t).local q.0))

unmet_step : (σ : State) (a t u : ℕ) → enabled σ a ≡ true → a ≢ t → Unmet σ t u → Unmet (step σ a) t u
unfolding run
unmet_step σ a t u m ne r =
    let k = meet_end (place σ t) (may_write (thread_of σ t).local) (thread_of σ u).local (thread_of (step σ a) u).local (rest_run (a ∷ []) σ (m, tt) u) r in
    let e = thread_other σ a t (Ne-symm ne) in
    let q = place_other σ a t (Ne-symm ne) in
    rw (q, e) k

-- t is free of the steps of threads to which nothing is left that could conflict with its next access
pub unmet_free : (z : Schedule) (σ : State) (t : ℕ) → Allowed SC σ z → ((u : ℕ) → Memᴰ u z → (u ≢ t) × Unmet σ t u) → Free SC Independent σ z t
unmet_free [] σ t a r = tt
unmet_free (b ∷ z) σ t a r =
    let k = r b (Memᴰ.head refl) in (
      k.0,
      unmet_independent σ b t a.0 k.1,
      unmet_free z (step σ b) t a.1 (λ u m. let j = r u (Memᴰ.tail m) in (j.0, unmet_step σ b t u a.0 k.0 j.1)),
    )
