-- THE SEARCH FINDS THE LIST, with no test at a full schedule: R1, R2 and R3 are sound, and what they leave is listed. And the search as code
-- meets it.
use Prim.Native.Nat.{ℕ, ◌+◌, ◌-◌, ◌<◌, ◌≤◌}
use mathlib.Core.Path.{◌≡◌, refl, sym, ap, subst, ◌∙◌}
use mathlib.Core.Logic.{◌≢◌}
use mathlib.Core.Bool.{Bool, true, false, not, ◌||◌}
use mathlib.Core.Option.{Option, none, some}
use mathlib.Core.List.{List, [], ◌∷◌, ◌++◌, append_assoc}
use native.Mathlib.Omega.{arith}
use lib.Dec.{eqb}
use borrow.Author.Tests.{eqb-false, ne_eqb, not-true}
use Rattle.spec_file.specs.Program.{Program}
use Rattle.spec_file.specs.WellFormed.{WellFormed}
use Rattle.spec_file.proofs.DigitValues.{both}
use Rattle.spec_file.proofs.Tests.{neither}
use Rattle.spec_schedules.specs.Lists.{range, any}
use Rattle.spec_schedules.specs.Order.{Schedule}
use Rattle.spec_schedules.specs.System.{ended}
use Rattle.theory_search.specs.Search.{low, past, Uncut}
use Rattle.spec_schedules.specs.Found.{after}
use Rattle.theory_search.specs.Found.{concat_range}
use Rattle.spec_schedules.proofs.Lists.{of_range, any_yes}
use Rattle.spec_schedules.proofs.Runs.{run_snoc, full_split}
use Rattle.spec_model.specs.Alike as Alike
use Rattle.theory_search.specs.ModelSearch as Model
use Rattle.theory_search.specs.ModelSearch.{Rule, Sound}
use Rattle.theory_search.proofs.ModelSearch as Found
use Rattle.theory_search.proofs.ModelSearch.{either_sound}
use Rattle.theory_search.proofs.Searching as Searching
use Rattle.spec_sc.specs.State.{State, SC, enabled, step, start}
use Rattle.spec_sc.specs.Graph.{Full, end_of}
use Rattle.spec_sc.specs.Sequential.{sc}
use Rattle.spec_sc.proofs.Laws.{sc_laws}
use Rattle.spec_model.specs.Alike.{Smaller}
use Rattle.spec_model.specs.Alike.{alike_by, list_of}
use Rattle.theory_sc.specs.Rules.{twin}
use Rattle.spec_model.specs.Model.{failing}
use Rattle.spec_model.specs.Search.{sought}
use Rattle.spec_model.proofs.Permitted.{or_left, or_right}
use Rattle.theory_sc.proofs.Late.{late_smaller}
use Rattle.theory_sc.proofs.Twins.{twin_smaller}
use Rattle.theory_sc.specs.Survivor.{Survives}
use Rattle.spec_schedules.specs.Sets.{has}
use Rattle.theory_sc.specs.LateSet.{late_set}
use Rattle.theory_sc.specs.Sleepers.{sleepers}
use Rattle.theory_sc.specs.Search.{given_up, found_behind, found_with, found}
use Rattle.theory_sc.proofs.Exact.{survivor_listed}
use Rattle.theory_sc.proofs.LateSet.{late_set_lem, late_exact}
use Rattle.theory_sc.proofs.Sleepers.{sleepers_smaller}

-- ---- the rules
module _ (p : Program) (v : Schedule) (t : ℕ) where
  abbrev σ : State
  σ = end_of p v

  -- what the step leaves asleep
  abbrev asleep : ℕ
  asleep = sleepers (end_of p (v ++ (t ∷ []))) (late_set p (v ++ (t ∷ [])))

  there : sleepers (step (end_of p v) t) (late_set p (v ++ (t ∷ []))) ≡ asleep
  there = ap (λ (τ : State). sleepers τ (late_set p (v ++ (t ∷ [])))) (sym (run_snoc SC (start p) v t))

  pub up_late : has (late_set p v) t ≡ true → given_up p v (end_of p v) t ≡ true
  unfolding given_up
  up_late e = or_left (has (late_set p v) t) _ e

  pub up_twin : any (twin p (end_of p v) t) (range 0 t) ≡ true → given_up p v (end_of p v) t ≡ true
  unfolding given_up
  up_twin e = or_right (has (late_set p v) t) _ (or_left (any (twin p σ t) (range 0 t)) _ e)

  pub up_asleep : sleepers (end_of p (v ++ (t ∷ []))) (late_set p (v ++ (t ∷ []))) ≢ 0 → given_up p v (end_of p v) t ≡ true
  unfolding given_up
  up_asleep n = or_right (has (late_set p v) t) _ (or_right (any (twin p σ t) (range 0 t)) _ (ap (λ (s : ℕ). not (eqb s 0)) there ∙ ap not (ne_eqb asleep 0 n)))

  pub up_not : has (late_set p v) t ≡ false → any (twin p (end_of p v) t) (range 0 t) ≡ false → sleepers (end_of p (v ++ (t ∷ []))) (late_set p (v ++ (t ∷ []))) ≡ 0 →
      given_up p v (end_of p v) t ≡ false
  unfolding given_up
  up_not a b c = let d = there ∙ c in rw (a, b, d)

  left_on_time : given_up p v (end_of p v) t ≡ false → (has (late_set p v) t ≡ false) × (any (twin p (end_of p v) t) (range 0 t) ≡ false)
  unfolding given_up
  left_on_time e = let a = neither (has (late_set p v) t) _ e in (a.0, (neither (any (twin p σ t) (range 0 t)) _ a.1).0)

module _ (p : Program) (w : WellFormed p) where
  -- THE RULES ARE SOUND: R1, R2, R3
  abbrev comes_late : Rule sc
  comes_late v σ t = has (late_set p v) t

  abbrev has_twin : Rule sc
  has_twin v σ t = any (twin p σ t) (range 0 t)

  abbrev leaves_asleep : Rule sc
  leaves_asleep v σ t = not (eqb (sleepers (step σ t) (late_set p (v ++ (t ∷ [])))) 0)

  late_sound : Sound sc p comes_late
  late_sound v t z q f = late_smaller p w v t z (both (enabled (end_of p v) t) _ (sym (late_set_lem p v t) ∙ q)).1 f

  twins_sound : Sound sc p has_twin
  twins_sound v t z q f =
      let r = any_yes (twin p (end_of p v) t) (range 0 t) q in
      let h = (of_range 0 t r.0 r.1).1 in
      twin_smaller p w v r.0 t z (omega arith) r.2 f

  sleepers_sound : Sound sc p leaves_asleep
  sleepers_sound v t z q f =
      let whole = append_assoc v (t ∷ []) z in
      subst (Smaller sc p) whole (sleepers_smaller p w (v ++ (t ∷ [])) z (λ e. eqb-false _ 0 (not-true _ q) (there p v t ∙ e)) (subst (Full p) (sym whole) f))

  pub given_up_smaller : Sound sc p (given_up p)
  unfolding given_up
  given_up_smaller = either_sound sc p comes_late (λ v σ t. has_twin v σ t || leaves_asleep v σ t) late_sound (either_sound sc p has_twin leaves_asleep twins_sound sleepers_sound)

  -- what they leave survives, so is listed
  left_survives : (s : Schedule) → Full p s → Uncut SC (start p) (given_up p) s → Survives p s
  left_survives s f u v t z e =
      let a = left_on_time p v t (u v t z e) in
      (sym (late_exact p v t (full_split SC (start p) v (t ∷ z) (subst (Full p) e f)).1.0) ∙ a.0, a.1)

  -- THE SEARCH FINDS what the list has above the bound, in order, or those of it that fail
  pub found_exactly : (failures : Bool) (o : Option Schedule) → found failures p o ≡ after o (sought sc failures p)
  unfolding found
  found_exactly failures o =
      Found.found_exactly sc sc_laws p (w, refl) given_up given_up_smaller (λ s f u. (survivor_listed p w s f (left_survives s f u)).1) failures o

-- ---- with one next step
module _ (failures : Bool) (p : Program) (steps : ℕ) (o : Option Schedule) (v : Schedule) (t : ℕ) where
  pub with_ended : enabled (end_of p v) t ≡ false → found_with failures p steps o v t ≡ []
  with_ended = Searching.with_ended sc given_up failures p steps o v t

  pub with_given_up : enabled (end_of p v) t ≡ true → given_up p v (end_of p v) t ≡ true → found_with failures p steps o v t ≡ []
  with_given_up = Searching.with_given_up sc given_up failures p steps o v t

  pub with_live : enabled (end_of p v) t ≡ true → given_up p v (end_of p v) t ≡ false → found_with failures p steps o v t ≡ found_behind failures p (steps + 1) (past o t) (v ++ (t ∷ []))
  with_live = Searching.with_live sc given_up failures p steps o v t

-- ---- over the next steps in turn, and at a full schedule
module _ (failures : Bool) (p : Program) (steps : ℕ) (v : Schedule) where
  pub behind_bound : (b : Schedule) → ended SC (end_of p v) ≡ true → found_behind failures p steps (some b) v ≡ []
  behind_bound = Searching.behind_bound sc given_up failures p steps v

  pub behind_end : (f : Bool) → ended SC (end_of p v) ≡ true → failing sc p v ≡ f → (not failures || f) ≡ true → found_behind failures p steps none v ≡ v ∷ []
  behind_end = Searching.behind_end sc given_up failures p steps v

  pub behind_passed : (f : Bool) → ended SC (end_of p v) ≡ true → failing sc p v ≡ f → (not failures || f) ≡ false → found_behind failures p steps none v ≡ []
  behind_passed = Searching.behind_passed sc given_up failures p steps v

  pub behind_stuck : (o : Option Schedule) → ended SC (end_of p v) ≡ false → 24 ≤ steps → found_behind failures p steps o v ≡ []
  behind_stuck = Searching.behind_stuck sc given_up failures p steps v

  pub behind_branches : (o : Option Schedule) → ended SC (end_of p v) ≡ false → steps < 24 → found_behind failures p steps o v ≡ concat_range (λ d. found_with failures p steps o v d) (6 - low o) (low o)
  behind_branches = Searching.behind_branches sc given_up failures p steps v
