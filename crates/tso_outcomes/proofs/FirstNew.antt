-- The first schedule with a new outcome behind a prefix as the code seeks it: with one next step, at the end, over the next steps in turn, and with marks.
use Prim.Native.Nat.{ℕ, ◌+◌, ◌<◌, ◌≤◌}
use mathlib.Core.Path.{◌≡◌, sym, ap, ap₂, subst, ◌∙◌}
use mathlib.Core.Bool.{Bool, true, false, cond}
use mathlib.Core.Option.{Option, none, some}
use mathlib.Core.List.{List, [], ◌∷◌, ◌++◌}
use lib.ListN.{length, drop}
use Rattle.spec_file.specs.Program.{Program}
use Rattle.spec_schedules.specs.Lists.{head_of}
use Rattle.spec_schedules.specs.Order.{Schedule}
use Rattle.spec_schedules.specs.System.{Allowed, ended}
use Rattle.spec_model.specs.Laws.{Admitted}
use Rattle.spec_tso.specs.State.{TSO, start, fails, memory_of, without_queues}
use Rattle.spec_tso.specs.Graph.{end_of}
use Rattle.spec_tso.specs.TotalStoreOrder.{tso}
use Rattle.spec_covers.specs.declared.outcome.Outcome.{Outcome}
use Rattle.theory_search.proofs.Found.{low_none}
use Rattle.theory_states.proofs.Turns.{Seeking, seeking_start, seeking_found, seeking_none, seeking_over}
use Rattle.theory_tso.specs.Search.{given_up}
use Rattle.theory_tso_key.specs.Words.{Wide}
use Rattle.theory_outcomes.specs.Outcomes.{outcome_at, passes}
use Rattle.theory_outcomes.proofs.NextSteps.{none_with, cut_with, live_with, turns_with, ended_with}
use Rattle.theory_tso_outcomes.specs.Passing.{passing_behind, passing_with, outcome_key}
use Rattle.theory_tso_outcomes.proofs.Passing.{passes_nothing, passed_over, may_mark}
use Rattle.tso_rules.specs.Tried.{tried}
use Rattle.tso_walk.proofs.TriedBytes.{tried_enabled, up_asleep, up_not, untried_none}
use Rattle.table.specs.Places.{said}
use Rattle.table.specs.Answers.{Honest}
use Rattle.states_outcomes.specs.declared.known.Frame.{Frame}
use Rattle.states_outcomes.specs.Rows.{is_new}
use Rattle.states_outcomes.specs.Swept.{Silent}
use Rattle.states_outcomes.proofs.Values.{values_memory}
use Rattle.tso_key.specs.Stands.{Stands}
use Rattle.tso_key.specs.declared.spot.Spot.{Spot}
use Rattle.tso_states.specs.Position.{Position}
use Rattle.tso_states.proofs.Numbered.{Sleeps}
use Rattle.tso_outcomes.specs.Swept.{Swept}

-- where nothing is said, nothing false is
pub silent_swept : (p : Program) (f : Frame) (rows m : List ℕ) → Silent f.slots f.cut m → Swept p f rows m
silent_swept p f rows m silent = passes_nothing p (is_new rows f.known) f.width _ silent

-- ---- with one next step
module _ (test : Outcome → Bool) (p : Program) (steps : ℕ) (v : Schedule) (b : ℕ) where
  pub asleep_new : tried p v b ≡ true → Sleeps p v b true → none ≡ head_of (passing_with test p steps v b)
  asleep_new is e = cut_with tso given_up test p steps v b (tried_enabled p v b is) (up_asleep p v b e)

  pub awake_new : tried p v b ≡ true → Sleeps p v b false → (k : ℕ) → k ≡ steps + 1 → passing_behind test p k (v ++ (b ∷ [])) ≡ passing_with test p steps v b
  awake_new is e = live_with tso given_up test p steps v b (tried_enabled p v b is) (up_not p v b is e)

  pub untried_new : tried p v b ≡ false → none ≡ head_of (passing_with test p steps v b)
  untried_new e = none_with tso given_up test p steps v b (untried_none p v b false steps none e)

-- ---- where nobody may step: the prefix, if its outcome passes
pub ended_new : (test : Outcome → Bool) (p : Program) (steps : ℕ) (v : Schedule) → ended TSO (end_of p v) ≡ true → (found : Bool) (l : Schedule) → found ≡ passes tso test (end_of p v) → l ≡ v
    → cond found (some l) none ≡ head_of (passing_behind test p steps v)
ended_new test p steps v e = ended_with tso given_up test p steps v e

-- the outcome that a spot holds
pub spot_outcome : (code lengths class : List ℕ) (threads groups : ℕ) (x : Spot) (p : Program) (v : Schedule) → Stands code lengths class threads groups x p v → (f : Bool) → f ≡ fails (end_of p v) →
    record { memory = x.place.memory; fails = f } ≡ outcome_at tso (end_of p v)
unfolding memory_of
spot_outcome code lengths class threads groups x p v at f e =
    let h = at.reached.holds.core in
    ap₂ (λ (m : List ℕ) (b : Bool). let o : Outcome = record { memory = m; fails = b } in o) (values_memory (without_queues (end_of p v)) x.place.memory h.eight h.sizes.1 h.values) e

pub outcome_here : (code lengths class : List ℕ) (threads groups : ℕ) (x : Spot) (p : Program) (v : Schedule) → Stands code lengths class threads groups x p v → (f : Bool) → f ≡ fails (end_of p v) →
    (test : Outcome → Bool) → test (record { memory = x.place.memory; fails = f }) ≡ passes tso test (end_of p v)
outcome_here code lengths class threads groups x p v at f e test = ap test (spot_outcome code lengths class threads groups x p v at f e)

-- ---- with marks
module _ (p : Program) (m : Admitted tso p) (f : Frame) (rows : List ℕ) (wide : Wide f.width p) (v : Schedule) (a : Allowed TSO (start p) v) (steps : ℕ) (counted : length v ≡ steps)
    (going : ended TSO (end_of p v) ≡ false) where
  -- none is behind a key that is marked
  pub passed_new : (t k : List ℕ) → k ≡ outcome_key f.width p v (end_of p v) → Swept p f rows t → said f.slots 0 (drop f.cut t) k ≡ some []
      → none ≡ head_of (passing_behind (is_new rows f.known) p steps v)
  passed_new t k e marks s =
      passed_over p m (is_new rows f.known) f.width v a steps counted going (λ j c. said f.slots 0 (drop f.cut t) j ≡ some c) marks [] (ap (said f.slots 0 (drop f.cut t)) (sym e) ∙ s)

  -- a key behind which none was found may be marked
  pub marked_new : (t t' k : List ℕ) → k ≡ outcome_key f.width p v (end_of p v) → none ≡ head_of (passing_behind (is_new rows f.known) p steps v)
      → Honest f.slots k [] (drop f.cut t) (drop f.cut t') → Swept p f rows t → Swept p f rows t'
  marked_new t t' k e nowhere honest marks =
      may_mark p m (is_new rows f.known) f.width v a steps counted going wide
      (λ j c. said f.slots 0 (drop f.cut t) j ≡ some c) (λ j c. said f.slots 0 (drop f.cut t') j ≡ some c) nowhere []
      (subst (λ (j : List ℕ). Honest f.slots j [] (drop f.cut t) (drop f.cut t')) e honest) marks

-- ---- over the next steps in turn: none with a step before b is the first; and the marks stay true
module _ (code lengths class : List ℕ) (f : Frame) (x : Spot) (rows lent₀ : List ℕ) where
  abbrev Case : Type 0
  Case = Position code lengths class f.width x

  abbrev True : Position code lengths class f.width x → List ℕ → Type 0
  True c m = Swept c.program f rows m

  abbrev each : Position code lengths class f.width x → ℕ → List Schedule
  each c b = passing_with (is_new rows f.known) c.program x.place.steps c.prefix b

  abbrev whole : Position code lengths class f.width x → List Schedule
  whole c = passing_behind (is_new rows f.known) c.program x.place.steps c.prefix

  abbrev pub Still : List ℕ → ℕ → Type 0
  Still lent b =
      Seeking (Position code lengths class f.width x) 22 (λ c m. Swept c.program f rows m) lent₀ (λ c b. passing_with (is_new rows f.known) c.program x.place.steps c.prefix b)
      (λ c. passing_behind (is_new rows f.known) c.program x.place.steps c.prefix) lent b

  -- what a turn with b answers, where these rows are known
  abbrev pub Visits : ℕ → Option Schedule → List ℕ → List ℕ → List ℕ → Type 0
  Visits b o lent lent' now =
      (c : Position code lengths class f.width x) → Swept c.program f now lent
      → (o ≡ head_of (passing_with (is_new now f.known) c.program x.place.steps c.prefix b)) × Swept c.program f now lent'

  pub new_start : ((c : Position code lengths class f.width x) → ended TSO (end_of c.program c.prefix) ≡ false) → ((c : Position code lengths class f.width x) → x.place.steps < 32) → Still lent₀ 0
  new_start e room = seeking_start Case 22 True lent₀ each whole _ low_none
      (λ c. turns_with tso given_up (is_new rows f.known) c.program x.place.steps c.prefix (e c) (room c))

  -- with b, which is tried: found
  pub new_found : (lent lent' : List ℕ) (b : ℕ) → b < 22 → Still lent b → (s : Schedule) (now : List ℕ) → now ≡ rows → Visits b (some s) lent lent' now →
      (c : Position code lengths class f.width x) → Swept c.program f rows lent₀ →
      (some s ≡ head_of (passing_behind (is_new rows f.known) c.program x.place.steps c.prefix)) × Swept c.program f rows lent'
  new_found lent lent' b h so s now same visited = seeking_found Case 22 True lent₀ each whole lent lent' b h so s (subst (Visits b (some s) lent lent') same visited)

  -- not found
  pub new_none : (lent lent' behind : List ℕ) (b : ℕ) → b < 22 → Still lent b → (now : List ℕ) → now ≡ rows → Visits b none lent lent' now → behind ≡ lent' → Still behind (b + 1)
  new_none lent lent' behind b h so now same visited = seeking_none Case 22 True lent₀ each whole lent lent' behind b h so (subst (Visits b none lent lent') same visited)

  -- with b, which is not tried
  pub new_passed : (lent behind : List ℕ) (b : ℕ) → b < 22 → Still lent b → ((c : Position code lengths class f.width x) → tried c.program c.prefix b ≡ false) → behind ≡ lent → Still behind (b + 1)
  new_passed lent behind b h so not-tried =
      seeking_none Case 22 True lent₀ each whole lent lent behind b h so (λ c ok. (untried_new (is_new rows f.known) c.program x.place.steps c.prefix b (not-tried c), ok))

  -- no step is left
  pub new_over : (lent : List ℕ) (b : ℕ) → 22 ≤ b → Still lent b → (c : Position code lengths class f.width x) → Swept c.program f rows lent₀ →
      (none ≡ head_of (passing_behind (is_new rows f.known) c.program x.place.steps c.prefix)) × Swept c.program f rows lent
  new_over = seeking_over Case 22 True lent₀ each whole
