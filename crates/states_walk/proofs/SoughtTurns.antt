-- The first failing schedule behind a prefix as the code looks for it without marks: over the next steps in turn.
use Prim.Native.Nat.{ℕ, ◌+◌, ◌<◌, ◌≤◌}
use mathlib.Core.Path.{◌≡◌}
use mathlib.Core.Bool.{true, false}
use mathlib.Core.Option.{none, some}
use mathlib.Core.List.{List}
use Rattle.theory_search.proofs.Found.{low_none}
use Rattle.theory_sc.proofs.Search.{behind_branches}
use Rattle.search_place.proofs.ReachedStep.{reached_open}
use Rattle.theory_states.proofs.Passing.{Seeks, seek_start, seek_found, seek_next, seek_over}
use Rattle.spec_file.specs.Program.{Program}
use Rattle.spec_schedules.specs.Lists.{head_of}
use Rattle.spec_schedules.specs.Order.{Schedule}
use Rattle.spec_schedules.specs.System.{ended}
use Rattle.spec_sc.specs.State.{SC}
use Rattle.spec_sc.specs.Graph.{end_of}
use Rattle.theory_sc.specs.Search.{found_behind, found_with}
use Rattle.search_place.specs.Reached.{Reached}
use Rattle.search_place.specs.declared.place.Place.{Place}
use Rattle.search_walk.specs.Tried.{tried}
use Rattle.listing_cursor.specs.Steps.{steps_of}
use Rattle.listing_cursor.specs.declared.steps.Steps.{Steps}
use Rattle.states_walk.proofs.Turns.{Cases}
use Rattle.states_walk.proofs.FirstFound.{untried_first}

-- what is left to the loop: none with a step before t is the first
abbrev pub Sought : (code lengths class : List ℕ) (x : Place) (t : ℕ) → Type 0
Sought code lengths class x t =
    (c : Cases code lengths class x) → Seeks (λ d. found_with true c.2 x.steps none c.3 d) 6 (found_behind true c.2 x.steps none c.3) t

module _ (code lengths class : List ℕ) (x : Place) where
  pub sought_start : ((threads groups : ℕ) (p : Program) (v : Schedule) → Reached code lengths class threads groups x p v → ended SC (end_of p v) ≡ false) → Sought code lengths class x 0
  sought_start e c =
      let p = c.2 in
      let v = c.3 in
      let going = e c.0 c.1 p v c.4 in
      seek_start (λ d. found_with true p x.steps none v d) 6 (found_behind true p x.steps none v) _ low_none
      (behind_branches true p x.steps v none going (reached_open code lengths class c.0 c.1 x p v c.4 going))

  -- with t, which is tried: found
  pub sought_found : (t : ℕ) → t < 6 → Sought code lengths class x t → (s : Steps 24)
      → ((threads groups : ℕ) (p : Program) (v : Schedule) → Reached code lengths class threads groups x p v → some (steps_of s) ≡ head_of (found_with true p x.steps none v t))
      → (c : Cases code lengths class x) → some (steps_of s) ≡ head_of (found_behind true c.2 x.steps none c.3)
  sought_found t h left s visited c =
      let p = c.2 in
      let v = c.3 in
      seek_found (λ d. found_with true p x.steps none v d) 6 (found_behind true p x.steps none v) t h (left c) (steps_of s) (visited c.0 c.1 p v c.4)

  -- not found
  pub sought_none : (t : ℕ) → t < 6 → Sought code lengths class x t
      → ((threads groups : ℕ) (p : Program) (v : Schedule) → Reached code lengths class threads groups x p v → none ≡ head_of (found_with true p x.steps none v t))
      → Sought code lengths class x (t + 1)
  sought_none t h left visited c =
      let p = c.2 in
      let v = c.3 in
      seek_next (λ d. found_with true p x.steps none v d) 6 (found_behind true p x.steps none v) t h (left c) (visited c.0 c.1 p v c.4)

  -- with t, which is not tried
  pub sought_passed : (t : ℕ) → t < 6 → Sought code lengths class x t
      → ((threads groups : ℕ) (p : Program) (v : Schedule) → Reached code lengths class threads groups x p v → tried p v t ≡ false) → Sought code lengths class x (t + 1)
  sought_passed t h left not-tried c =
      let p = c.2 in
      let v = c.3 in
      seek_next (λ d. found_with true p x.steps none v d) 6 (found_behind true p x.steps none v) t h (left c) (untried_first p x.steps v t (not-tried c.0 c.1 p v c.4))

  -- no step is left
  pub sought_over : (t : ℕ) → 6 ≤ t → Sought code lengths class x t → (c : Cases code lengths class x) → none ≡ head_of (found_behind true c.2 x.steps none c.3)
  sought_over t h left c = seek_over (λ d. found_with true c.2 x.steps none c.3 d) 6 (found_behind true c.2 x.steps none c.3) t h (left c)
