-- The first schedule with a new outcome behind a prefix as the code seeks it: with one next step, at the end, over the next steps in turn, and with marks.
use Prim.Native.Nat.{ℕ, ◌+◌, ◌<◌, ◌≤◌}
use mathlib.Core.Path.{◌≡◌, sym, ap, ap₂, subst, ◌∙◌}
use mathlib.Core.Bool.{Bool, true, false}
use mathlib.Core.Option.{Option, none, some}
use mathlib.Core.List.{List, [], ◌∷◌, ◌++◌}
use lib.ListN.{length, drop}
use borrow.Author.Tests.{eqb-false, not-true}
use Rattle.spec_file.specs.Program.{Program}
use Rattle.spec_file.specs.WellFormed.{WellFormed}
use Rattle.spec_schedules.specs.Lists.{head_of}
use Rattle.spec_schedules.specs.Order.{Schedule}
use Rattle.spec_schedules.specs.System.{Allowed, ended}
use Rattle.spec_sc.specs.State.{SC, start, fails}
use Rattle.spec_sc.specs.Graph.{end_of}
use Rattle.spec_sc.specs.Sequential.{sc}
use Rattle.spec_covers.specs.declared.outcome.Outcome.{Outcome}
use Rattle.theory_search.proofs.Found.{low_none}
use Rattle.theory_sc.specs.Search.{given_up}
use Rattle.theory_sc.proofs.Search.{up_asleep}
use Rattle.theory_states.proofs.Passing.{Seeks, seek_start, seek_found, seek_next, seek_over}
use Rattle.theory_sc_key.specs.Key.{Wide}
use Rattle.theory_outcomes.specs.Outcomes.{outcome_at, passes}
use Rattle.theory_outcomes.specs.Passing.{passing_behind, passing_with, outcome_key}
use Rattle.theory_outcomes.proofs.NextSteps.{none_with, cut_with, live_with, turns_with, ended_with}
use Rattle.theory_outcomes.proofs.Passing.{passed_over, may_mark}
use Rattle.search_place.proofs.ReachedStep.{reached_open}
use Rattle.search_walk.specs.Tried.{tried}
use Rattle.search_walk.proofs.TriedSteps.{tried_enabled, untried_none}
use Rattle.table.specs.Places.{said}
use Rattle.table.specs.Answers.{Honest}
use Rattle.states_key.specs.Stands.{Stands}
use Rattle.states_key.specs.declared.spot.Spot.{Spot}
use Rattle.std.specs.Prelude as Prelude
use Rattle.std.specs.Prelude.{cond}
use Rattle.listing_cursor.specs.Steps.{steps_of, found_of}
use Rattle.listing_cursor.specs.declared.steps.Steps.{Steps}
use Rattle.states_walk.proofs.Numbered.{Asleep, awake_cut, Cases}
use Rattle.states_outcomes.specs.declared.known.Frame.{Frame}
use Rattle.states_outcomes.specs.Rows.{is_new}
use Rattle.states_outcomes.specs.Swept.{Swept}
use Rattle.states_outcomes.proofs.Values.{values_memory}

-- ---- with one next step
module _ (test : Outcome → Bool) (p : Program) (steps : ℕ) (v : Schedule) (t : ℕ) where
  pub asleep_new : tried p v t ≡ true → Asleep p v t true → (o : Option Schedule) → o ≡ none → o ≡ head_of (passing_with test p steps v t)
  asleep_new is e o q = q ∙ cut_with sc given_up test p steps v t (tried_enabled p v t is) (up_asleep p v t (eqb-false _ 0 (not-true _ e)))

  pub awake_new : tried p v t ≡ true → Asleep p v t false → (k : ℕ) → k ≡ steps + 1 → passing_behind test p k (v ++ (t ∷ [])) ≡ passing_with test p steps v t
  awake_new is e = live_with sc given_up test p steps v t (tried_enabled p v t is) (awake_cut p v t is e)

  pub untried_new : tried p v t ≡ false → none ≡ head_of (passing_with test p steps v t)
  untried_new e = none_with sc given_up test p steps v t (untried_none p v t false steps none e)

-- ---- where nobody may step: the prefix, if its outcome passes
pub ended_new : (test : Outcome → Bool) (p : Program) (steps : ℕ) (v : Schedule) → ended SC (end_of p v) ≡ true → (b : Bool) (u : Schedule) → b ≡ passes sc test (end_of p v) → u ≡ v
    → cond b (some u) none ≡ head_of (passing_behind test p steps v)
ended_new test p steps v e b u = ended_with sc given_up test p steps v e b u

-- the outcome that a spot holds
pub spot_outcome : (code lengths class : List ℕ) (threads groups : ℕ) (x : Spot) (p : Program) (v : Schedule) → Stands code lengths class threads groups x p v → (f : Bool) → f ≡ fails (end_of p v) →
    record { memory = x.place.memory; fails = f } ≡ outcome_at sc (end_of p v)
spot_outcome code lengths class threads groups x p v at f e =
    let h = at.reached.holds in
    ap₂ (λ (m : List ℕ) (b : Bool). let o : Outcome = record { memory = m; fails = b } in o) (values_memory (end_of p v) x.place.memory h.eight h.sizes.1 h.values) e

pub outcome_here : (code lengths class : List ℕ) (threads groups : ℕ) (x : Spot) (p : Program) (v : Schedule) → Stands code lengths class threads groups x p v → (f : Bool) → f ≡ fails (end_of p v) →
    (test : Outcome → Bool) → test (record { memory = x.place.memory; fails = f }) ≡ passes sc test (end_of p v)
outcome_here code lengths class threads groups x p v at f e test = ap test (spot_outcome code lengths class threads groups x p v at f e)

-- ---- with marks
module _ (p : Program) (w : WellFormed p) (f : Frame) (rows : List ℕ) (wide : Wide f.width p) (v : Schedule) (a : Allowed SC (start p) v) (steps : ℕ) (counted : length v ≡ steps)
    (going : ended SC (end_of p v) ≡ false) where
  -- none is behind a key that is marked
  pub passed_new : (m k : List ℕ) → k ≡ outcome_key f.width p v (end_of p v) → Swept p f rows m → said f.slots 0 (drop f.cut m) k ≡ some []
      → none ≡ head_of (passing_behind (is_new rows f.known) p steps v)
  passed_new m k e marks s =
      passed_over p w (is_new rows f.known) f.width v a steps counted going (λ j c. said f.slots 0 (drop f.cut m) j ≡ some c) marks [] (ap (said f.slots 0 (drop f.cut m)) (sym e) ∙ s)

  -- a key behind which none was found may be marked
  pub marked_new : (m m' k : List ℕ) → k ≡ outcome_key f.width p v (end_of p v) → none ≡ head_of (passing_behind (is_new rows f.known) p steps v)
      → Honest f.slots k [] (drop f.cut m) (drop f.cut m') → Swept p f rows m → Swept p f rows m'
  marked_new m m' k e nowhere honest marks =
      may_mark p w (is_new rows f.known) f.width v a steps counted going wide
      (λ j c. said f.slots 0 (drop f.cut m) j ≡ some c) (λ j c. said f.slots 0 (drop f.cut m') j ≡ some c) nowhere []
      (subst (λ (j : List ℕ). Honest f.slots j [] (drop f.cut m) (drop f.cut m')) e honest) marks

-- ---- over the next steps in turn
-- what is left to the loop: none with a step before t is the first; and the marks stay true
abbrev pub Still : (code lengths class : List ℕ) (f : Frame) (x : Spot) (rows lent₀ lent : List ℕ) (t : ℕ) → Type 0
Still code lengths class f x rows lent₀ lent t =
    (c : Cases code lengths class x) → Wide f.width c.2 → Swept c.2 f rows lent₀
    → Seeks (λ d. passing_with (is_new rows f.known) c.2 x.place.steps c.3 d) 6 (passing_behind (is_new rows f.known) c.2 x.place.steps c.3) t × Swept c.2 f rows lent

-- what a turn with t answers
abbrev pub Visits : (code lengths class : List ℕ) (f : Frame) (x : Spot) (t : ℕ) (r : Prelude.Option (Steps 24)) (lent lent' : List ℕ) (rows : List ℕ) → Type 0
Visits code lengths class f x t r lent lent' rows =
    (threads groups : ℕ) (p : Program) (v : Schedule) → Stands code lengths class threads groups x p v → Wide f.width p → Swept p f rows lent
    → (found_of r ≡ head_of (passing_with (is_new rows f.known) p x.place.steps v t)) × Swept p f rows lent'

module _ (code lengths class : List ℕ) (f : Frame) (x : Spot) (rows lent₀ : List ℕ) where
  abbrev test : Outcome → Bool
  test = is_new rows f.known

  pub new_start : ((threads groups : ℕ) (p : Program) (v : Schedule) → Stands code lengths class threads groups x p v → ended SC (end_of p v) ≡ false) → Still code lengths class f x rows lent₀ lent₀ 0
  new_start e c wide marks =
      let p = c.2 in
      let v = c.3 in
      let going = e c.0 c.1 p v c.4 in (
        seek_start (λ d. passing_with test p x.place.steps v d) 6 (passing_behind test p x.place.steps v) _ low_none
            (turns_with sc given_up test p x.place.steps v going (reached_open code lengths class c.0 c.1 x.place p v c.4.reached going)),
        marks,
      )

  -- with t, which is tried: found
  pub new_found : (lent lent' : List ℕ) (t : ℕ) → t < 6 → Still code lengths class f x rows lent₀ lent t → (s : Steps 24) → (now : List ℕ) → now ≡ rows → Visits code lengths class f x t (Prelude.Some s) lent lent' now
      → (c : Cases code lengths class x) → Wide f.width c.2 → Swept c.2 f rows lent₀
      → (some (steps_of s) ≡ head_of (passing_behind test c.2 x.place.steps c.3)) × Swept c.2 f rows lent'
  new_found lent lent' t h still s now same visited c wide marks =
      let p = c.2 in
      let v = c.3 in
      let before = still c wide marks in
      let q = subst (Visits code lengths class f x t (Prelude.Some s) lent lent') same visited c.0 c.1 p v c.4 wide before.1 in
      (seek_found (λ d. passing_with test p x.place.steps v d) 6 (passing_behind test p x.place.steps v) t h before.0 (steps_of s) q.0, q.1)

  -- not found
  pub new_none : (lent lent' behind : List ℕ) (t : ℕ) → t < 6 → Still code lengths class f x rows lent₀ lent t → (now : List ℕ) → now ≡ rows → Visits code lengths class f x t Prelude.None lent lent' now
      → behind ≡ lent' → Still code lengths class f x rows lent₀ behind (t + 1)
  new_none lent lent' behind t h still now same visited eb c wide marks =
      let p = c.2 in
      let v = c.3 in
      let before = still c wide marks in
      let q = subst (Visits code lengths class f x t Prelude.None lent lent') same visited c.0 c.1 p v c.4 wide before.1 in (
        seek_next (λ d. passing_with test p x.place.steps v d) 6 (passing_behind test p x.place.steps v) t h before.0 q.0,
        subst (Swept p f rows) (sym eb) q.1,
      )

  -- with t, which is not tried
  pub new_passed : (lent behind : List ℕ) (t : ℕ) → t < 6 → Still code lengths class f x rows lent₀ lent t
      → ((threads groups : ℕ) (p : Program) (v : Schedule) → Stands code lengths class threads groups x p v → tried p v t ≡ false) → behind ≡ lent → Still code lengths class f x rows lent₀ behind (t + 1)
  new_passed lent behind t h still not-tried eb c wide marks =
      let p = c.2 in
      let v = c.3 in
      let before = still c wide marks in (
        seek_next (λ d. passing_with test p x.place.steps v d) 6 (passing_behind test p x.place.steps v) t h before.0 (untried_new test p x.place.steps v t (not-tried c.0 c.1 p v c.4)),
        subst (Swept p f rows) (sym eb) before.1,
      )

  -- no step is left
  pub new_over : (lent : List ℕ) (t : ℕ) → 6 ≤ t → Still code lengths class f x rows lent₀ lent t → (c : Cases code lengths class x) → Wide f.width c.2 → Swept c.2 f rows lent₀
      → (none ≡ head_of (passing_behind test c.2 x.place.steps c.3)) × Swept c.2 f rows lent
  new_over lent t h still c wide marks =
      let before = still c wide marks in
      (seek_over (λ d. passing_with test c.2 x.place.steps c.3 d) 6 (passing_behind test c.2 x.place.steps c.3) t h before.0, before.1)
