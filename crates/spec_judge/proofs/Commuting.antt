-- Two threads that fit do not meet at a location, unless both only read there. So their steps commute, and each still fits behind the other.
use Prim.Native.Nat.{ℕ}
use mathlib.Core.Path.{◌≡◌, refl, sym, ap, ◌∙◌}
use mathlib.Core.Logic.{◌≢◌, inl, inr, Ne-symm}
use mathlib.Core.Bool.{Bool, true, false, true≢false}
use native.Mathlib.Decide.{ℕ_discrete}
use lib.ListN.{length}
use Rattle.spec_sc.specs.Local.{takes}
use Rattle.spec_sc.specs.State.{Event, State, thread_of, cell_of, place, latest, step, enabled}
use Rattle.spec_sc.specs.Actions.{given, writes}
use Rattle.spec_sc.specs.Graph.{Graph}
use Rattle.spec_sc.proofs.Access.{blind_puts}
use Rattle.spec_sc.proofs.Steps.{enabled_pending, thread_other, enabled_other}
use Rattle.spec_sc.proofs.Swap.{Independent, swap, cell_after}
use Rattle.spec_sc.proofs.Histories.{upcoming, upcoming_undone, done_more}
use Rattle.spec_judge.specs.Consistent.{order_of}
use Rattle.spec_judge.proofs.Walk.{next_write, fits}
use Rattle.spec_judge.proofs.Fitting.{FitAt, fits_is, is_fits}

module _ (g : Graph) (pl : Event → ℕ) (σ : State) where
  -- an access that does not write reads
  silent_reads : (t : ℕ) → enabled σ t ≡ true → writes σ t ≡ false → takes (thread_of σ t).local ≡ true
  unfolding writes given place
  silent_reads t m w = go (takes (thread_of σ t).local) refl
    where
      go : (b : Bool) → takes (thread_of σ t).local ≡ b → takes (thread_of σ t).local ≡ true
      go true e = e
      go false e =
          let x = (cell_of σ (place σ t)).value in
          let r = blind_puts (thread_of σ t).local x x (enabled_pending σ t m) e in
          absurd (true≢false (ap given (sym r.1) ∙ w))

  -- one that writes does not meet another that fits
  clash : (x y : ℕ) → x ≢ y → FitAt g pl σ x → FitAt g pl σ y → place σ x ≡ place σ y → writes σ x ≡ true → ⊥
  unfolding writes place
  clash x y n X Y q w = go (writes σ y) refl
    where
      go : (b : Bool) → writes σ y ≡ b → ⊥
      go true e = n (ap (λ (i : Event). i.0) (sym (X.writes w).0 ∙ ap (λ (l : ℕ). next_write (order_of g l) (length (cell_of σ l).writes)) q ∙ (Y.writes e).0))
      go false e =
          let r = Y.reads (silent_reads y Y.live e) in
          upcoming_undone σ y ((X.writes w).1 (upcoming σ y) (latest (cell_of σ (place σ y)).writes) r.0
          (ap (λ (l : ℕ). latest (cell_of σ l).writes) (sym q)) (r.1 ∙ sym q) (λ i. n (sym (ap (λ (j : Event). j.0) i))))

  fit_independent : (a b : ℕ) → a ≢ b → FitAt g pl σ a → FitAt g pl σ b → Independent σ a b
  fit_independent a b n A B = go (ℕ_discrete (place σ a) (place σ b))
    where
      silent : (x y : ℕ) → x ≢ y → FitAt g pl σ x → FitAt g pl σ y → place σ x ≡ place σ y → (w : Bool) → writes σ x ≡ w → writes σ x ≡ false
      silent x y i X Y q false e = e
      silent x y i X Y q true e = absurd (clash x y i X Y q e)

      go : Dec (place σ a ≡ place σ b) → Independent σ a b
      go (no q) = inl q
      go (yes q) = inr (silent a b n A B q (writes σ a) refl, silent b a (Ne-symm n) B A (sym q) (writes σ b) refl)

  pub fits_commute : (a b : ℕ) → a ≢ b → fits g pl σ a ≡ true → fits g pl σ b ≡ true → step (step σ a) b ≡ step (step σ b) a
  fits_commute a b n x y = swap σ a b n (fit_independent a b n (fits_is g pl σ a x) (fits_is g pl σ b y))

  fit_stays : (a b : ℕ) → a ≢ b → FitAt g pl σ a → FitAt g pl σ b → FitAt g pl (step σ a) b
  unfolding place
  fit_stays a b n A B =
      rw (enabled_other σ a b (Ne-symm n), thread_other σ a b (Ne-symm n), cell_after σ a b (fit_independent a b n A B))
      (record { live = B.live; reads = B.reads; writes = λ w. let r = B.writes w in (r.0, λ x s k q i j. done_more σ a A.live x (r.1 x s k q i j)) })

  pub fits_stays : (a b : ℕ) → a ≢ b → fits g pl σ a ≡ true → fits g pl σ b ≡ true → fits g pl (step σ a) b ≡ true
  fits_stays a b n x y = is_fits g pl (step σ a) b (fit_stays a b n (fits_is g pl σ a x) (fits_is g pl σ b y))
