-- THE SET OF ALL THREADS AND THAT OF NONE: where every thread is hostile the hostile side can force exactly where some full schedule fails; where none
-- is, exactly where every full schedule fails.
use Prim.Native.Nat.{ℕ, ◌<◌}
use mathlib.Core.Path.{◌≡◌, refl, sym, ap, subst, ◌∙◌}
use mathlib.Core.Logic.{◌↔◌}
use mathlib.Core.Bool.{true, false}
use lib.ListN.{length}
use Rattle.spec_file.specs.Program.{Program}
use Rattle.spec_schedules.specs.Order.{Schedule}
use Rattle.spec_schedules.specs.Sets.{has}
use Rattle.spec_schedules.specs.System.{run}
use Rattle.spec_sc.specs.State.{State, enabled, step, SC, start, fails}
use Rattle.spec_sc.specs.Graph.{Full, end_of}
use Rattle.spec_sc.proofs.Steps.{enabled_range, step_threads}
use Rattle.spec_sc.proofs.Start.{start_threads}
use Rattle.spec_sc.proofs.Lawful.{lawful}
use Rattle.spec_force.specs.Game.{Side, hostile, friendly, other, winner}
use Rattle.spec_force.specs.Forced.{owner_in, game_of, CanForce, AllIn, NoneIn}
use Rattle.spec_force.proofs.Decided.{winner_fails, hostile_fails}
use Rattle.spec_force.proofs.OneSide.{one_forces, other_forces}

module _ (set : ℕ) (p : Program) where
  -- the threads of a state are those of the program
  abbrev Of : State → Type 0
  Of σ = length σ.threads ≡ length p.threads

  kept : (σ : State) (t : ℕ) → Of σ → enabled σ t ≡ true → Of (step σ t)
  kept σ t o e = step_threads σ t ∙ o

  there : (σ : State) (t : ℕ) → Of σ → enabled σ t ≡ true → t < length p.threads
  there σ t o e = subst (λ (n : ℕ). t < n) o (enabled_range σ t e)

  hostile_owner : (t : ℕ) → has set t ≡ true → owner_in set t ≡ hostile
  unfolding owner_in
  hostile_owner t e = rw (e, owner_in)

  friendly_owner : (t : ℕ) → has set t ≡ false → owner_in set t ≡ friendly
  unfolding owner_in
  friendly_owner t e = rw (e, owner_in)

  -- ALL
  pub all_hostile : AllIn set p → CanForce hostile set p ↔ ((s : Schedule) × Full p s × (fails (end_of p s) ≡ true))
  all_hostile a =
      let r = one_forces (game_of set) lawful hostile Of (λ σ t o e. hostile_owner t (a t (there σ t o e))) kept hostile (start p) (start_threads p) in (
        (λ f. let s = r.0 f in (s.0, s.1, hostile_fails (game_of set) (end_of p s.0) s.2)),
        λ s. r.1 (s.0, s.1, winner_fails (game_of set) (end_of p s.0) s.2),
      )

  -- NONE
  pub none_hostile : NoneIn set p → CanForce hostile set p ↔ ((s : Schedule) → Full p s → fails (end_of p s) ≡ true)
  unfolding other
  none_hostile a =
      let r = other_forces (game_of set) lawful friendly Of (λ σ t o e. friendly_owner t (a t (there σ t o e))) kept hostile (start p) (start_threads p) in
      ((λ f s g. hostile_fails (game_of set) (end_of p s) (r.0 f s g)), λ h. r.1 (λ s g. winner_fails (game_of set) (end_of p s) (h s g)))
