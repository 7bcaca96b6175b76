-- Which next bytes are tried, and what is found with one that is not.
use Prim.Native.Nat.{ℕ}
use mathlib.Core.Path.{◌≡◌, refl, sym, ap, ◌∙◌}
use mathlib.Core.Logic.{◌⊎◌, inl, inr, ⊎_elim}
use mathlib.Core.Bool.{Bool, true, false, not, ◌&&◌, ◌||◌, true≢false}
use mathlib.Core.Option.{Option}
use mathlib.Core.List.{List, [], ◌∷◌, ◌++◌}
use borrow.Author.Tests.{not-true}
use Rattle.spec_file.specs.Program.{Program}
use Rattle.spec_file.proofs.DigitValues.{both}
use Rattle.spec_schedules.specs.Lists.{range, any}
use Rattle.spec_schedules.specs.Order.{Schedule}
use Rattle.spec_schedules.proofs.Runs.{run_snoc}
use Rattle.spec_model.proofs.Permitted.{or_left, or_right}
use Rattle.theory_search.proofs.Searching.{with_ended, with_given_up}
use Rattle.spec_tso.specs.State.{State, TSO, owner, step, enabled, start}
use Rattle.spec_tso.specs.Graph.{end_of}
use Rattle.spec_tso.specs.Actions.{action}
use Rattle.spec_tso.specs.TotalStoreOrder.{tso}
use Rattle.theory_tso.specs.Rules.{late, taken, twin, asleep}
use Rattle.theory_tso.specs.Far.{far}
use Rattle.theory_tso.specs.Search.{given_up, found_with}
use Rattle.tso_rules.specs.Tried.{tried}

module _ (p : Program) (v : Schedule) (b : ℕ) where
  abbrev σ : State
  σ = end_of p v

  abbrev comes_late : Bool
  comes_late = late (taken p v) (action (end_of p v) b)

  abbrev has_twin : Bool
  has_twin = any (twin p (end_of p v) (owner b)) (range 0 (owner b))

  abbrev sleeps : Bool
  sleeps = any (asleep p (v ++ (b ∷ [])) (end_of p (v ++ (b ∷ [])))) TSO.names

  there : any (asleep p (v ++ (b ∷ [])) (step (end_of p v) b)) TSO.names ≡ sleeps
  there = ap (λ (τ : State). any (asleep p (v ++ (b ∷ [])) τ) TSO.names) (sym (run_snoc TSO (start p) v b))

  -- ---- what a rule gives up
  up_late : late (taken p v) (action (end_of p v) b) ≡ true → given_up p v (end_of p v) b ≡ true
  unfolding given_up
  up_late e = or_left comes_late _ e

  up_twin : any (twin p (end_of p v) (owner b)) (range 0 (owner b)) ≡ true → given_up p v (end_of p v) b ≡ true
  unfolding given_up
  up_twin e = or_right comes_late _ (or_left has_twin _ e)

  pub up_asleep : any (asleep p (v ++ (b ∷ [])) (end_of p (v ++ (b ∷ [])))) TSO.names ≡ true → given_up p v (end_of p v) b ≡ true
  unfolding given_up
  up_asleep e = or_right comes_late _ (or_right has_twin _ (or_left (any (asleep p (v ++ (b ∷ [])) (step σ b)) TSO.names) _ (there ∙ e)))

  up_far : far p v (end_of p v) b ≡ true → given_up p v (end_of p v) b ≡ true
  unfolding given_up
  up_far e = or_right comes_late _ (or_right has_twin _ (or_right (any (asleep p (v ++ (b ∷ [])) (step σ b)) TSO.names) _ e))

  -- ---- what a byte that is tried is not
  parts : tried p v b ≡ true → (enabled (end_of p v) b ≡ true) × (comes_late ≡ false) × (has_twin ≡ false) × (far p v (end_of p v) b ≡ false)
  unfolding tried
  parts e =
      let m = both (enabled σ b) _ e in
      let l = both (not comes_late) _ m.1 in
      let t = both (not has_twin) _ l.1 in
      (m.0, not-true comes_late l.0, not-true has_twin t.0, not-true (far p v σ b) t.1)

  pub tried_enabled : tried p v b ≡ true → enabled (end_of p v) b ≡ true
  tried_enabled e = (parts e).0

  pub up_not : tried p v b ≡ true → any (asleep p (v ++ (b ∷ [])) (end_of p (v ++ (b ∷ [])))) TSO.names ≡ false → given_up p v (end_of p v) b ≡ false
  unfolding given_up
  up_not e s =
      let q = parts e in
      let z = there ∙ s in
      rw (q.1, q.2, q.3, z)

  all_pass : enabled (end_of p v) b ≡ true → comes_late ≡ false → has_twin ≡ false → far p v (end_of p v) b ≡ false → tried p v b ≡ true
  unfolding tried
  all_pass m l t f = rw (m, l, t, f)

  -- ---- one that is not tried may not step, or is given up
  pub untried : tried p v b ≡ false → (enabled (end_of p v) b ≡ false) ⊎ ((enabled (end_of p v) b ≡ true) × (given_up p v (end_of p v) b ≡ true))
  untried e = go (enabled (end_of p v) b) refl comes_late refl has_twin refl (far p v (end_of p v) b) refl
    where
      go : (m : Bool) → enabled (end_of p v) b ≡ m → (l : Bool) → comes_late ≡ l → (t : Bool) → has_twin ≡ t → (f : Bool) → far p v (end_of p v) b ≡ f
          → (enabled (end_of p v) b ≡ false) ⊎ ((enabled (end_of p v) b ≡ true) × (given_up p v (end_of p v) b ≡ true))
      go false em l el t et f ef = inl em
      go true em true el t et f ef = inr (em, up_late el)
      go true em false el true et f ef = inr (em, up_twin et)
      go true em false el false et true ef = inr (em, up_far ef)
      go true em false el false et false ef = absurd (true≢false (sym (all_pass em el et ef) ∙ e))

  -- so with it nothing is found
  pub untried_none : (failures : Bool) (steps : ℕ) (o : Option Schedule) → tried p v b ≡ false → found_with given_up failures p steps o v b ≡ []
  untried_none failures steps o e = ⊎_elim (λ (m : enabled (end_of p v) b ≡ false). with_ended tso given_up failures p steps o v b m)
      (λ (m : (enabled (end_of p v) b ≡ true) × (given_up p v (end_of p v) b ≡ true)). with_given_up tso given_up failures p steps o v b m.0 m.1) (untried e)
