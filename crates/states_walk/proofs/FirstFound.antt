-- The first failing schedule behind a prefix as the code seeks it: with one next step, over the next steps in turn, and with marks.
use Prim.Native.Nat.{ℕ, ◌+◌, ◌-◌, ◌<◌, ◌≤◌}
use mathlib.Core.Path.{◌≡◌, refl, sym, ap, ap₂, subst, ◌∙◌}
use mathlib.Core.Bool.{Bool, true, false, cond}
use mathlib.Core.Option.{Option, none, some}
use mathlib.Core.List.{List, [], ◌∷◌, ◌++◌}
use native.Mathlib.Omega.{arith}
use lib.ListN.{length, length-append}
use borrow.Author.Tests.{eqb-false, not-true}
use Rattle.spec_file.specs.Program.{Program}
use Rattle.spec_file.specs.WellFormed.{WellFormed}
use Rattle.spec_schedules.specs.Lists.{head_of}
use Rattle.spec_schedules.specs.Order.{Schedule}
use Rattle.spec_schedules.specs.System.{Allowed, ended}
use Rattle.spec_sc.specs.State.{State, SC, start, fails}
use Rattle.spec_sc.specs.Graph.{end_of}
use Rattle.spec_sc.specs.Sequential.{sc}
use Rattle.spec_sc.proofs.Lawful.{lawful, start_24}
use Rattle.theory_search.specs.ModelSearch.{looked_for}
use Rattle.theory_search.proofs.Found.{past_none, low_none}
use Rattle.theory_sc.specs.Search.{given_up, found_behind, found_with}
use Rattle.theory_sc.proofs.Search.{up_asleep, with_given_up, with_live, behind_end, behind_passed, behind_branches}
use Rattle.search_place.specs.Reached.{Reached as At}
use Rattle.search_place.specs.declared.place.Place.{Place}
use Rattle.search_place.proofs.ReachedStep.{reached_open}
use Rattle.search_walk.specs.Tried.{tried}
use Rattle.search_walk.proofs.TriedSteps.{tried_enabled, untried_none}
use Rattle.table.specs.Places.{said}
use Rattle.table.specs.Answers.{Honest}
use Rattle.theory_states.specs.Positions.{Reached, GoesOn}
use Rattle.theory_states.proofs.Positions.{reached_on}
use Rattle.theory_states.proofs.Passing.{head_nil, Seeks, seek_start, seek_found, seek_next, seek_over, size_left, clean_passed, clean_known}
use Rattle.theory_states.proofs.Wrapped.{clean_put}
use Rattle.theory_sc_key.specs.View.{breaks}
use Rattle.theory_sc_key.specs.Key.{word_key, Wide}
use Rattle.theory_sc_key.proofs.View.{breaks_law}
use Rattle.theory_sc_key.proofs.Decides.{decides, as_wide}
use Rattle.states_key.specs.Stands.{Stands}
use Rattle.states_key.specs.declared.spot.Spot.{Spot}
use Rattle.states_walk.specs.Known.{Marked}
use Rattle.listing_cursor.specs.Steps.{steps_of}
use Rattle.listing_cursor.specs.declared.steps.Steps.{Steps}
use Rattle.states_walk.proofs.Numbered.{Asleep, awake_cut, Cases}

-- the head of a list of one, or of none
pub head_if : (b : Bool) (s : Schedule) → cond b (some s) none ≡ head_of (cond b (s ∷ []) [])
unfolding head_of
head_if true s = refl
head_if false s = refl

-- ---- with one next step
module _ (p : Program) (steps : ℕ) (v : Schedule) (t : ℕ) where
  pub asleep_first : tried p v t ≡ true → Asleep p v t true → (o : Option Schedule) → o ≡ none → o ≡ head_of (found_with true p steps none v t)
  asleep_first is e o q = q ∙ sym (head_nil (found_with true p steps none v t) (with_given_up true p steps none v t (tried_enabled p v t is) (up_asleep p v t (eqb-false _ 0 (not-true _ e)))))

  pub awake_first : tried p v t ≡ true → Asleep p v t false → (k : ℕ) → k ≡ steps + 1 → found_behind true p k none (v ++ (t ∷ [])) ≡ found_with true p steps none v t
  awake_first is e k q =
      ap₂ (λ (i : ℕ) (o : Option Schedule). found_behind true p i o (v ++ (t ∷ []))) q (sym (past_none t))
      ∙ sym (with_live true p steps none v t (tried_enabled p v t is) (awake_cut p v t is e))

  pub untried_first : tried p v t ≡ false → none ≡ head_of (found_with true p steps none v t)
  untried_first e = sym (head_nil (found_with true p steps none v t) (untried_none p v t true steps none e))

-- one step more
pub one_more : (code lengths class : List ℕ) (threads groups : ℕ) (x y : Place) (p : Program) (v : Schedule) (t : ℕ) → At code lengths class threads groups x p v
    → At code lengths class threads groups y p (v ++ (t ∷ [])) → y.steps ≡ x.steps + 1
one_more code lengths class threads groups x y p v t at next = omega (arith, next.counted, at.counted, length-append v (t ∷ []))

-- ---- where nobody may step: the prefix, if it has failed
pub ended_first : (p : Program) (steps : ℕ) (v : Schedule) → ended SC (end_of p v) ≡ true → (b : Bool) → b ≡ fails (end_of p v) → (s : Schedule) → s ≡ v
    → cond b (some s) none ≡ head_of (found_behind true p steps none v)
unfolding head_of
ended_first p steps v e true f s q = ap some q ∙ sym (ap head_of (behind_end true p steps v true e (sym f) refl))
ended_first p steps v e false f s q = sym (ap head_of (behind_passed true p steps v false e (sym f) refl))

-- ---- with marks
module _ (p : Program) (w : WellFormed p) (n slots : ℕ) (wide : Wide n p) (v : Schedule) (a : Allowed SC (start p) v) (steps : ℕ) (counted : length v ≡ steps) (fine : fails (end_of p v) ≡ false) where
  on : GoesOn SC (given_up p) (Reached SC (start p))
  on u σ m t e c = reached_on SC (start p) u σ m t e

  looked : (u : Schedule) (σ : State) → Reached SC (start p) u σ → looked_for sc true p u ≡ fails σ
  unfolding looked_for
  looked u σ m = ap fails (sym m.0)

  few : SC.size (end_of p v) ≤ 24 - steps
  few = omega (arith, size_left SC lawful v (start p) a, start_24 p w, counted)

  -- nothing is behind a key that is marked
  pub passed : (m k : List ℕ) → k ≡ word_key n p v (end_of p v) → Marked p n slots m → said slots 0 m k ≡ some [] → none ≡ head_of (found_behind true p steps none v)
  passed m k e marks s =
      clean_passed SC lawful 6 (given_up p) (Reached SC (start p)) on breaks fails (breaks_law p) (looked_for sc true p) looked (24 - steps) v (end_of p v) (refl, a) few fine
      (marks (v, end_of p v) (refl, a) [] (ap (said slots 0 m) (sym e) ∙ s))

  -- a key behind which nothing was found may be marked
  pub marked : (m m' k : List ℕ) → k ≡ word_key n p v (end_of p v) → none ≡ head_of (found_behind true p steps none v) → Honest slots k [] m m' → Marked p n slots m → Marked p n slots m'
  marked m m' k e nowhere honest marks =
      clean_put SC lawful 6 (given_up p) breaks (Reached SC (start p)) (word_key n p) (λ j c. said slots 0 m j ≡ some c) (λ j c. said slots 0 m' j ≡ some c)
      (λ j. length j ≡ length (word_key n p v (end_of p v))) (λ u σ r. as_wide p n wide u σ r ∙ sym (as_wide p n wide v (end_of p v) (refl, a))) (decides p w n)
      v (end_of p v) (refl, a) []
      (clean_known SC lawful 6 (given_up p) (Reached SC (start p)) on breaks fails (breaks_law p) (looked_for sc true p) looked (24 - steps) v (end_of p v) (refl, a) few fine nowhere)
      (subst (λ (j : List ℕ). Honest slots j [] m m') e honest) marks

-- ---- over the next steps in turn
-- what is left to the loop: none with a step before t is the first; and the marks stay true
abbrev pub Left : (code lengths class : List ℕ) (n slots : ℕ) (x : Spot) (table₀ table : List ℕ) (t : ℕ) → Type 0
Left code lengths class n slots x table₀ table t =
    (c : Cases code lengths class x) → Wide n c.2 → Marked c.2 n slots table₀
    → Seeks (λ d. found_with true c.2 x.place.steps none c.3 d) 6 (found_behind true c.2 x.place.steps none c.3) t × Marked c.2 n slots table

module _ (code lengths class : List ℕ) (n slots : ℕ) (x : Spot) (table₀ : List ℕ) where
  abbrev Still : (table : List ℕ) (t : ℕ) → Type 0
  Still table t = Left code lengths class n slots x table₀ table t

  pub seeks_start : ((threads groups : ℕ) (p : Program) (v : Schedule) → Stands code lengths class threads groups x p v → ended SC (end_of p v) ≡ false) → Still table₀ 0
  seeks_start e c wide marks =
      let p = c.2 in
      let v = c.3 in
      let going = e c.0 c.1 p v c.4 in (
        seek_start (λ d. found_with true p x.place.steps none v d) 6 (found_behind true p x.place.steps none v) _ low_none
            (behind_branches true p x.place.steps v none going (reached_open code lengths class c.0 c.1 x.place p v c.4.reached going)),
        marks,
      )

  -- with t, which is tried: found
  pub turn_found : (table table' : List ℕ) (t : ℕ) → t < 6 → Still table t → (s : Steps 24)
      → ((threads groups : ℕ) (p : Program) (v : Schedule) → Stands code lengths class threads groups x p v → Wide n p → Marked p n slots table
      → (some (steps_of s) ≡ head_of (found_with true p x.place.steps none v t)) × Marked p n slots table')
      → (c : Cases code lengths class x) → Wide n c.2 → Marked c.2 n slots table₀
      → (some (steps_of s) ≡ head_of (found_behind true c.2 x.place.steps none c.3)) × Marked c.2 n slots table'
  turn_found table table' t h still s visited c wide marks =
      let p = c.2 in
      let v = c.3 in
      let before = still c wide marks in
      let q = visited c.0 c.1 p v c.4 wide before.1 in
      (seek_found (λ d. found_with true p x.place.steps none v d) 6 (found_behind true p x.place.steps none v) t h before.0 (steps_of s) q.0, q.1)

  -- not found
  pub turn_none : (table table' behind : List ℕ) (t : ℕ) → t < 6 → Still table t
      → ((threads groups : ℕ) (p : Program) (v : Schedule) → Stands code lengths class threads groups x p v → Wide n p → Marked p n slots table
      → (none ≡ head_of (found_with true p x.place.steps none v t)) × Marked p n slots table')
      → behind ≡ table' → Still behind (t + 1)
  turn_none table table' behind t h still visited eb c wide marks =
      let p = c.2 in
      let v = c.3 in
      let before = still c wide marks in
      let q = visited c.0 c.1 p v c.4 wide before.1 in (
        seek_next (λ d. found_with true p x.place.steps none v d) 6 (found_behind true p x.place.steps none v) t h before.0 q.0,
        subst (Marked p n slots) (sym eb) q.1,
      )

  -- with t, which is not tried
  pub turn_passed : (table behind : List ℕ) (t : ℕ) → t < 6 → Still table t
      → ((threads groups : ℕ) (p : Program) (v : Schedule) → Stands code lengths class threads groups x p v → tried p v t ≡ false) → behind ≡ table → Still behind (t + 1)
  turn_passed table behind t h still not-tried eb c wide marks =
      let p = c.2 in
      let v = c.3 in
      let before = still c wide marks in (
        seek_next (λ d. found_with true p x.place.steps none v d) 6 (found_behind true p x.place.steps none v) t h before.0 (untried_first p x.place.steps v t (not-tried c.0 c.1 p v c.4)),
        subst (Marked p n slots) (sym eb) before.1,
      )

  -- no step is left
  pub seeks_over : (table : List ℕ) (t : ℕ) → 6 ≤ t → Still table t → (c : Cases code lengths class x) → Wide n c.2 → Marked c.2 n slots table₀
      → (none ≡ head_of (found_behind true c.2 x.place.steps none c.3)) × Marked c.2 n slots table
  seeks_over table t h still c wide marks =
      let before = still c wide marks in
      (seek_over (λ d. found_with true c.2 x.place.steps none c.3 d) 6 (found_behind true c.2 x.place.steps none c.3) t h before.0, before.1)
