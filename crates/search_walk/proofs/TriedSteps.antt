-- Which next steps are tried: as the code asks it, and what is found with one that is not.
use Prim.Native.Nat.{ℕ}
use mathlib.Core.Path.{◌≡◌, refl, sym, ap, ◌∙◌}
use mathlib.Core.Logic.{◌⊎◌, inl, inr, ⊎_elim}
use mathlib.Core.Bool.{Bool, true, false, not, ◌&&◌, true≢false}
use mathlib.Core.Option.{Option}
use mathlib.Core.List.{[]}
use borrow.Author.Tests.{not-true}
use Rattle.spec_file.specs.Program.{Program}
use Rattle.spec_file.proofs.DigitValues.{both}
use Rattle.spec_schedules.specs.Lists.{range, any}
use Rattle.spec_schedules.specs.Order.{Schedule}
use Rattle.spec_sc.specs.State.{enabled}
use Rattle.spec_sc.specs.Graph.{end_of}
use Rattle.theory_sc.specs.Rules.{twin}
use Rattle.spec_schedules.specs.Sets.{has}
use Rattle.theory_sc.specs.LateSet.{late_set}
use Rattle.theory_sc.specs.Search.{given_up, found_with}
use Rattle.theory_sc.proofs.Search.{up_late, up_twin, with_ended, with_given_up}
use Rattle.search_walk.specs.Tried.{tried}

module _ (p : Program) (v : Schedule) (t : ℕ) where
  -- ---- one question after the other
  pub tried_ended : enabled (end_of p v) t ≡ false → false ≡ tried p v t
  unfolding tried
  tried_ended e = sym (rw e refl)

  pub tried_late : enabled (end_of p v) t ≡ true → has (late_set p v) t ≡ true → false ≡ tried p v t
  unfolding tried
  tried_late m e = sym (rw (m, e) refl)

  pub tried_twin : enabled (end_of p v) t ≡ true → has (late_set p v) t ≡ false → (b : Bool) → b ≡ any (twin p (end_of p v) t) (range 0 t) → not b ≡ tried p v t
  unfolding tried
  tried_twin m e b q = sym (rw (m, e) (ap not (sym q)))

  -- ---- what a step that is tried is not
  parts : tried p v t ≡ true → (enabled (end_of p v) t ≡ true) × ((not (has (late_set p v) t) && not (any (twin p (end_of p v) t) (range 0 t))) ≡ true)
  unfolding tried
  parts e = both (enabled (end_of p v) t) _ e

  pub tried_enabled : tried p v t ≡ true → enabled (end_of p v) t ≡ true
  tried_enabled e = (parts e).0

  pub tried_on_time : tried p v t ≡ true → has (late_set p v) t ≡ false
  tried_on_time e = not-true _ (both (not (has (late_set p v) t)) _ (parts e).1).0

  pub tried_alone : tried p v t ≡ true → any (twin p (end_of p v) t) (range 0 t) ≡ false
  tried_alone e = not-true _ (both (not (has (late_set p v) t)) _ (parts e).1).1

  -- ---- one that is not tried may not step, or a rule gives it up
  pub untried : tried p v t ≡ false → (enabled (end_of p v) t ≡ false) ⊎ ((enabled (end_of p v) t ≡ true) × (given_up p v (end_of p v) t ≡ true))
  untried e = go (enabled (end_of p v) t) refl (has (late_set p v) t) refl (any (twin p (end_of p v) t) (range 0 t)) refl
    where
      go : (m : Bool) → enabled (end_of p v) t ≡ m → (l : Bool) → has (late_set p v) t ≡ l → (w : Bool) → any (twin p (end_of p v) t) (range 0 t) ≡ w
          → (enabled (end_of p v) t ≡ false) ⊎ ((enabled (end_of p v) t ≡ true) × (given_up p v (end_of p v) t ≡ true))
      go false em l el w ew = inl em
      go true em true el w ew = inr (em, up_late p v t el)
      go true em false el true ew = inr (em, up_twin p v t ew)
      go true em false el false ew = absurd (true≢false (tried_twin em el false (sym ew) ∙ e))

  -- nothing is found with it
  pub untried_none : (failures : Bool) (steps : ℕ) (o : Option Schedule) → tried p v t ≡ false → found_with failures p steps o v t ≡ []
  untried_none failures steps o e = ⊎_elim (λ (m : enabled (end_of p v) t ≡ false). with_ended failures p steps o v t m)
      (λ (m : (enabled (end_of p v) t ≡ true) × (given_up p v (end_of p v) t ≡ true)). with_given_up failures p steps o v t m.0 m.1) (untried e)
