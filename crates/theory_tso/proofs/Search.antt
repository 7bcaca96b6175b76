-- THE SEARCH FINDS THE LIST, with no test at a full schedule: R1, R2, R3 and R2 far are sound, and what they leave is listed.
use Prim.Native.Nat.{ℕ}
use mathlib.Core.Path.{◌≡◌, sym, subst}
use mathlib.Core.Bool.{Bool, true, false, ◌||◌}
use mathlib.Core.Option.{Option}
use mathlib.Core.List.{[], ◌∷◌, ◌++◌, append_assoc}
use native.Mathlib.Omega.{arith}
use Rattle.spec_file.specs.Program.{Program}
use Rattle.spec_file.proofs.Tests.{neither}
use Rattle.spec_schedules.specs.Lists.{range, any}
use Rattle.spec_schedules.specs.Order.{Schedule}
use Rattle.theory_search.specs.Search.{Uncut}
use Rattle.spec_schedules.specs.Found.{after}
use Rattle.spec_schedules.proofs.Lists.{of_range, any_yes}
use Rattle.spec_schedules.proofs.Runs.{run_snoc}
use Rattle.spec_model.specs.Laws.{Admitted}
use Rattle.spec_model.specs.Alike.{Smaller}
use Rattle.theory_search.specs.ModelSearch.{Rule, Sound}
use Rattle.spec_model.specs.Search.{sought}
use Rattle.theory_search.proofs.Late.{late_smaller}
use Rattle.theory_search.proofs.ModelSearch as Model
use Rattle.theory_search.proofs.ModelSearch.{either_sound}
use Rattle.spec_tso.specs.State.{State, owner, step, start, TSO}
use Rattle.spec_tso.specs.Graph.{end_of, Full}
use Rattle.spec_tso.specs.Actions.{action}
use Rattle.spec_tso.specs.TotalStoreOrder.{tso}
use Rattle.spec_tso.proofs.Laws.{tso_laws}
use Rattle.theory_tso.specs.Rules.{late, taken, twin, asleep}
use Rattle.theory_tso.proofs.Twins.{twin_smaller}
use Rattle.theory_tso.proofs.Asleep.{asleep_smaller}
use Rattle.theory_tso.specs.Far.{far}
use Rattle.theory_tso.specs.Survivor.{Survives}
use Rattle.theory_tso.specs.Search.{found, given_up}
use Rattle.theory_tso.proofs.Far.{far_smaller}
use Rattle.theory_tso.proofs.Exact.{survivor_listed}

module _ (p : Program) (a : Admitted tso p) where
  -- THE RULES ARE SOUND: R1, R2, R3, R2 far
  abbrev comes_late : Rule tso
  comes_late v σ b = late (taken p v) (action σ b)

  abbrev has_twin : Rule tso
  has_twin v σ b = any (twin p σ (owner b)) (range 0 (owner b))

  abbrev leaves_asleep : Rule tso
  leaves_asleep v σ b = any (asleep p (v ++ (b ∷ [])) (step σ b)) TSO.names

  twins_sound : Sound tso p has_twin
  twins_sound v b z q f =
      let r = any_yes (twin p (end_of p v) (owner b)) (range 0 (owner b)) q in
      let h = (of_range 0 (owner b) r.0 r.1).1 in
      twin_smaller p a v r.0 b z (omega (arith, h)) r.2 f

  asleep_sound : Sound tso p leaves_asleep
  asleep_sound v b z q f =
      let r = any_yes (asleep p (v ++ (b ∷ [])) (step (end_of p v) b)) TSO.names q in
      let here : step (end_of p v) b ≡ end_of p (v ++ (b ∷ [])) = sym (run_snoc TSO (start p) v b) in
      let whole = append_assoc v (b ∷ []) z in
      subst (Smaller tso p) whole (asleep_smaller p a (v ++ (b ∷ [])) z r.0 (subst (λ (τ : State). asleep p (v ++ (b ∷ [])) τ r.0 ≡ true) here r.2) (subst (Full p) (sym whole) f))

  pub given_up_smaller : Sound tso p (given_up p)
  unfolding given_up
  given_up_smaller =
      either_sound tso p comes_late (λ v σ b. has_twin v σ b || (leaves_asleep v σ b || far p v σ b)) (late_smaller tso tso_laws p a)
      (either_sound tso p has_twin (λ v σ b. leaves_asleep v σ b || far p v σ b) twins_sound (either_sound tso p leaves_asleep (far p) asleep_sound (far_smaller p a)))

  -- what they leave survives, so is listed
  left_survives : (s : Schedule) → Uncut TSO (start p) (given_up p) s → Survives p s
  unfolding given_up
  left_survives s u v b z e =
      let x = neither (comes_late v (end_of p v) b) _ (u v b z e) in
      let y = neither (has_twin v (end_of p v) b) _ x.1 in
      (x.0, y.0, (neither (leaves_asleep v (end_of p v) b) _ y.1).1)

  -- THE SEARCH FINDS what the list has above the bound, in order, or those of it that fail
  pub found_exactly : (failures : Bool) (bound : Option Schedule) → found given_up failures p bound ≡ after bound (sought tso failures p)
  unfolding found
  found_exactly = Model.found_exactly tso tso_laws p a given_up given_up_smaller (λ s f u. (survivor_listed p a s f (left_survives s u)).1)
