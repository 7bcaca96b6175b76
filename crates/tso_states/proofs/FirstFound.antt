-- The first failing schedule behind a prefix as the code seeks it: with one next step, over the next steps in turn, and with marks.
use Prim.Native.Nat.{ℕ, ◌+◌, ◌-◌, ◌<◌, ◌≤◌}
use mathlib.Core.Path.{◌≡◌, refl, sym, ap, ap₂, subst, ◌∙◌}
use mathlib.Core.Bool.{Bool, true, false, cond}
use mathlib.Core.Option.{Option, none, some}
use mathlib.Core.List.{List, [], ◌∷◌, ◌++◌}
use native.Mathlib.Omega.{arith}
use lib.ListN.{length}
use Rattle.spec_file.specs.Program.{Program}
use Rattle.spec_schedules.specs.Lists.{head_of}
use Rattle.spec_schedules.specs.Order.{Schedule}
use Rattle.spec_schedules.specs.System.{Allowed, ended}
use Rattle.spec_model.specs.Laws.{Admitted}
use Rattle.spec_tso.specs.State.{State, TSO, start, fails}
use Rattle.spec_tso.specs.Graph.{end_of}
use Rattle.spec_tso.specs.TotalStoreOrder.{tso}
use Rattle.spec_tso.proofs.Lawful.{lawful, start_32}
use Rattle.spec_tso.proofs.Laws.{at_most_16}
use Rattle.theory_search.specs.ModelSearch.{looked_for}
use Rattle.theory_search.proofs.Found.{past_none, low_none}
use Rattle.theory_search.proofs.Searching.{with_given_up, with_live, behind_end, behind_passed, behind_branches}
use Rattle.theory_tso.specs.Search.{given_up, found_behind, found_with}
use Rattle.tso_rules.specs.Tried.{tried}
use Rattle.tso_walk.proofs.TriedBytes.{tried_enabled, up_asleep, up_not, untried_none}
use Rattle.table.specs.Places.{said}
use Rattle.table.specs.Answers.{Honest}
use Rattle.theory_states.specs.Positions.{Reached, GoesOn}
use Rattle.theory_states.proofs.Positions.{reached_on}
use Rattle.theory_states.proofs.Passing.{head_nil, size_left, clean_passed, clean_known}
use Rattle.theory_states.proofs.Wrapped.{clean_put}
use Rattle.theory_states.proofs.Turns.{Seeking, seeking_start, seeking_found, seeking_none, seeking_over}
use Rattle.theory_tso_key.specs.Views.{breaks}
use Rattle.theory_tso_key.specs.Words.{word_key, Wide}
use Rattle.theory_tso_key.proofs.Breaks.{breaks_law}
use Rattle.theory_tso_key.proofs.Shape.{words_decide, as_wide}
use Rattle.tso_key.specs.declared.spot.Spot.{Spot}
use Rattle.tso_states.specs.Position.{Position}
use Rattle.tso_states.specs.Known.{Marked}
use Rattle.tso_states.proofs.Numbered.{Sleeps}

-- ---- with one next step
module _ (p : Program) (steps : ℕ) (v : Schedule) (b : ℕ) where
  pub asleep_first : tried p v b ≡ true → Sleeps p v b true → none ≡ head_of (found_with given_up true p steps none v b)
  asleep_first is e = sym (head_nil (found_with given_up true p steps none v b) (with_given_up tso given_up true p steps none v b (tried_enabled p v b is) (up_asleep p v b e)))

  pub awake_first : tried p v b ≡ true → Sleeps p v b false → (k : ℕ) → k ≡ steps + 1 → found_behind given_up true p k none (v ++ (b ∷ [])) ≡ found_with given_up true p steps none v b
  awake_first is e k q =
      ap₂ (λ (i : ℕ) (o : Option Schedule). found_behind given_up true p i o (v ++ (b ∷ []))) q (sym (past_none b))
      ∙ sym (with_live tso given_up true p steps none v b (tried_enabled p v b is) (up_not p v b is e))

  untried_first : tried p v b ≡ false → none ≡ head_of (found_with given_up true p steps none v b)
  untried_first e = sym (head_nil (found_with given_up true p steps none v b) (untried_none p v b true steps none e))

-- ---- where nobody may step: the prefix, if it has failed
pub ended_first : (p : Program) (steps : ℕ) (v : Schedule) → ended TSO (end_of p v) ≡ true → (failed : Bool) → failed ≡ fails (end_of p v) → (s : Schedule) → s ≡ v
    → cond failed (some s) none ≡ head_of (found_behind given_up true p steps none v)
unfolding head_of
ended_first p steps v e true q s h = ap some h ∙ sym (ap head_of (behind_end tso given_up true p steps v true e (sym q) refl))
ended_first p steps v e false q s h = sym (ap head_of (behind_passed tso given_up true p steps v false e (sym q) refl))

-- ---- with marks
module _ (p : Program) (a : Admitted tso p) (n slots : ℕ) (wide : Wide n p) (v : Schedule) (ok : Allowed TSO (start p) v) (steps : ℕ) (counted : length v ≡ steps) (fine : fails (end_of p v) ≡ false) where
  on : GoesOn TSO (given_up p) (Reached TSO (start p))
  on u σ m t e c = reached_on TSO (start p) u σ m t e

  looked : (u : Schedule) (σ : State) → Reached TSO (start p) u σ → looked_for tso true p u ≡ fails σ
  unfolding looked_for
  looked u σ m = ap fails (sym m.0)

  few : TSO.size (end_of p v) ≤ 32 - steps
  few = omega (arith, size_left TSO lawful v (start p) ok, start_32 p (at_most_16 p a.1), counted)

  -- nothing is behind a key that is marked
  pub passed : (m k : List ℕ) → k ≡ word_key n p v (end_of p v) → Marked p n slots m → (s : ℕ) → s ≡ slots → said s 0 m k ≡ some [] →
      none ≡ head_of (found_behind given_up true p steps none v)
  passed m k e marks s es q =
      clean_passed TSO lawful 22 (given_up p) (Reached TSO (start p)) on breaks fails (breaks_law p a.0 (given_up p)) (looked_for tso true p) looked (32 - steps) v (end_of p v) (refl, ok) few fine
      (marks (v, end_of p v) (refl, ok) [] (ap (said slots 0 m) (sym e) ∙ subst (λ (i : ℕ). said i 0 m k ≡ some []) es q))

  -- a key behind which nothing was found may be marked
  pub marked : (m m' k : List ℕ) → k ≡ word_key n p v (end_of p v) → none ≡ head_of (found_behind given_up true p steps none v) → (s : ℕ) → s ≡ slots → Honest s k [] m m' → Marked p n slots m →
      Marked p n slots m'
  marked m m' k e nowhere s es honest marks =
      clean_put TSO lawful 22 (given_up p) breaks (Reached TSO (start p)) (word_key n p) (λ j c. said slots 0 m j ≡ some c) (λ j c. said slots 0 m' j ≡ some c)
      (λ j. length j ≡ length (word_key n p v (end_of p v))) (λ u σ r. as_wide p n u σ (wide u σ r) ∙ sym (as_wide p n v (end_of p v) (wide v (end_of p v) (refl, ok)))) (words_decide p a n)
      v (end_of p v) (refl, ok) []
      (clean_known TSO lawful 22 (given_up p) (Reached TSO (start p)) on breaks fails (breaks_law p a.0 (given_up p)) (looked_for tso true p) looked (32 - steps) v (end_of p v) (refl, ok) few fine nowhere)
      (subst (λ (j : List ℕ). Honest slots j [] m m') e (subst (λ (i : ℕ). Honest i k [] m m') es honest)) marks

-- ---- over the next steps in turn: none with a step before b is the first; and the marks stay true
module _ (code lengths class : List ℕ) (n slots : ℕ) (x : Spot) (table₀ : List ℕ) where
  abbrev Case : Type 0
  Case = Position code lengths class n x

  abbrev True : Position code lengths class n x → List ℕ → Type 0
  True c m = Marked c.program n slots m

  abbrev each : Position code lengths class n x → ℕ → List Schedule
  each c b = found_with given_up true c.program x.place.steps none c.prefix b

  abbrev whole : Position code lengths class n x → List Schedule
  whole c = found_behind given_up true c.program x.place.steps none c.prefix

  abbrev pub Left : List ℕ → ℕ → Type 0
  Left table b =
      Seeking (Position code lengths class n x) 22 (λ c m. Marked c.program n slots m) table₀ (λ c b. found_with given_up true c.program x.place.steps none c.prefix b)
      (λ c. found_behind given_up true c.program x.place.steps none c.prefix) table b

  pub seeks_start : ((c : Position code lengths class n x) → ended TSO (end_of c.program c.prefix) ≡ false) → ((c : Position code lengths class n x) → x.place.steps < 32) → Left table₀ 0
  seeks_start e room = seeking_start Case 22 True table₀ each whole _ low_none
      (λ c. behind_branches tso given_up true c.program x.place.steps c.prefix none (e c) (room c))

  -- with b, which is tried: found
  pub turn_found : (table table' : List ℕ) (b : ℕ) → b < 22 → Left table b → (s : Schedule) →
      ((c : Position code lengths class n x) → Marked c.program n slots table → (some s ≡ head_of (found_with given_up true c.program x.place.steps none c.prefix b)) × Marked c.program n slots table') →
      (c : Position code lengths class n x) → Marked c.program n slots table₀ →
      (some s ≡ head_of (found_behind given_up true c.program x.place.steps none c.prefix)) × Marked c.program n slots table'
  turn_found = seeking_found Case 22 True table₀ each whole

  -- not found
  pub turn_none : (table table' behind : List ℕ) (b : ℕ) → b < 22 → Left table b →
      ((c : Position code lengths class n x) → Marked c.program n slots table → (none ≡ head_of (found_with given_up true c.program x.place.steps none c.prefix b)) × Marked c.program n slots table') →
      behind ≡ table' → Left behind (b + 1)
  turn_none table table' behind b h so visited = seeking_none Case 22 True table₀ each whole table table' behind b h so visited

  -- with b, which is not tried
  pub turn_passed : (table behind : List ℕ) (b : ℕ) → b < 22 → Left table b → ((c : Position code lengths class n x) → tried c.program c.prefix b ≡ false) → behind ≡ table → Left behind (b + 1)
  turn_passed table behind b h so not-tried =
      seeking_none Case 22 True table₀ each whole table table behind b h so (λ c ok. (untried_first c.program x.place.steps c.prefix b (not-tried c), ok))

  -- no step is left
  pub seeks_over : (table : List ℕ) (b : ℕ) → 22 ≤ b → Left table b → (c : Position code lengths class n x) → Marked c.program n slots table₀ →
      (none ≡ head_of (found_behind given_up true c.program x.place.steps none c.prefix)) × Marked c.program n slots table
  seeks_over = seeking_over Case 22 True table₀ each whole
