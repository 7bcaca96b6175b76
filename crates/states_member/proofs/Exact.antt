-- The numbers with one next step are those of what is found with it; modulo 2^64 nothing of them is lost.
use Prim.Native.Nat.{ℕ, ◌-◌, ◌^◌, ◌%◌}
use mathlib.Core.Path.{◌≡◌, refl, sym, ap, ◌∙◌}
use mathlib.Core.Bool.{true, false}
use native.Mathlib.Nat.{mod-eq_of_lt, pow-le-pow_right}
use native.Mathlib.Omega.{arith}
use lib.ListN.{length}
use Rattle.spec_file.specs.Program.{Program}
use Rattle.spec_file.specs.WellFormed.{WellFormed}
use Rattle.spec_schedules.specs.Order.{Schedule}
use Rattle.spec_schedules.specs.System.{Allowed}
use Rattle.spec_sc.specs.State.{SC, start}
use Rattle.spec_sc.specs.Graph.{end_of}
use Rattle.spec_sc.specs.Sequential.{sc}
use Rattle.spec_sc.proofs.Lawful.{lawful, start_24, fits_64_bits}
use Rattle.theory_search.specs.ModelSearch.{looked_for}
use Rattle.theory_sc.specs.Search.{given_up}
use Rattle.theory_sc_key.specs.View.{breaks}
use Rattle.theory_states.specs.Positions.{Reached, GoesOn}
use Rattle.theory_states.specs.Numbers.{Numbers, numbers_by, numbers_from}
use Rattle.theory_states.specs.Wrapped.{Wrapped}
use Rattle.theory_states.proofs.Positions.{reached_on}
use Rattle.theory_states.proofs.Numbers.{with_enough}
use Rattle.theory_states.proofs.Bounds.{with_within}
use Rattle.theory_states.proofs.Passing.{size_left}
use Rattle.states_walk.specs.Known as Known

module _ (p : Program) where
  -- the search goes on from what it reaches
  pub on : GoesOn SC (given_up p) (Reached SC (start p))
  on u σ m t e c = reached_on SC (start p) u σ m t e

  -- every full schedule that is reached is looked for
  pub wanted : (u : Schedule) → looked_for sc false p u ≡ true
  unfolding looked_for
  wanted u = refl

module _ (p : Program) (w : WellFormed p) (v : Schedule) (a : Allowed SC (start p) v) (steps : ℕ) (counted : length v ≡ steps) where
  -- of as many steps as are left
  abbrev pub By : ℕ → Numbers
  By t = numbers_by SC 6 (given_up p) breaks (λ u τ. numbers_from SC 6 (given_up p) breaks (24 - steps - 1) u τ) v (end_of p v) t

  pub as_found : (t : ℕ) → By t ≡ Known.numbers_by p v t
  as_found t = with_enough SC 6 (given_up p) breaks lawful (24 - steps - 1) v (end_of p v) t (omega (arith, size_left SC lawful v (start p) a, start_24 p w, counted))

  pub exact : (t l f : ℕ) → Wrapped (Known.numbers_by p v t) l f → l ≡ (By t).listed
  exact t l f q =
      let e = ap (λ (n : Numbers). n.listed) (as_found t) in
      let h = with_within SC 6 (omega arith) (given_up p) breaks (24 - steps - 1) v (end_of p v) t in
      let k = pow-le-pow_right {n = 6} (omega arith) {i = 24 - steps - 1} {j = 24} (omega arith) in
      q.0 ∙ ap (λ (n : ℕ). n % 2 ^ 64) (sym e) ∙ mod-eq_of_lt (omega (arith, h, k, fits_64_bits))
