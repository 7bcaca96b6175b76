-- The search as the code walks it: with one next byte, over the next bytes in turn, and at a full schedule.
use Prim.Native.Nat.{ℕ, ◌+◌, ◌-◌, ◌<◌, ◌≤◌}
use mathlib.Core.Path.{◌≡◌, refl, sym, ap, ◌∙◌}
use mathlib.Core.Bool.{Bool, true, false}
use mathlib.Core.Option.{Option, none}
use mathlib.Core.List.{List, [], ◌∷◌, ◌++◌}
use native.Mathlib.Omega.{arith}
use lib.ListN.{length, drop, length-append}
use Rattle.spec_file.specs.Program.{Program}
use Rattle.spec_schedules.specs.Lists.{any}
use Rattle.spec_schedules.specs.Order.{Schedule}
use Rattle.spec_schedules.specs.System.{ended}
use Rattle.theory_search.specs.Search.{low, past}
use Rattle.theory_search.specs.Found.{concat_range}
use Rattle.spec_model.specs.Model.{failing}
use Rattle.spec_tso.specs.State.{TSO}
use Rattle.spec_tso.specs.Graph.{end_of}
use Rattle.spec_tso.specs.TotalStoreOrder.{tso}
use Rattle.theory_tso.specs.Rules.{asleep}
use Rattle.theory_tso.specs.Search.{given_up, found_behind, found_with}
use Rattle.listing_cursor.specs.Bounds.{bound_at}
use Rattle.listing_cursor.proofs.WalkLoop as Loop
use Rattle.tso_place.specs.Reached.{Reached}
use Rattle.tso_place.specs.declared.place.Place.{Place}
use Rattle.tso_rules.specs.Tried.{tried}
use Rattle.tso_walk.specs.Rows.{Adds}
use Rattle.theory_search.proofs.Searching.{with_given_up, with_live, behind_bound, behind_branches}
use Rattle.tso_walk.proofs.TriedBytes.{up_asleep, up_not, tried_enabled, untried_none}

-- ---- with one next byte
module _ (code lengths class : List ℕ) (threads groups : ℕ) (x : Place) (p : Program) (v : Schedule) (at : Reached code lengths class threads groups x p v)
    (failures : Bool) (o : Option Schedule) (b : ℕ) (is : tried p v b ≡ true) where
  -- the byte leaves some step asleep
  pub visit_asleep : any (asleep p (v ++ (b ∷ [])) (end_of p (v ++ (b ∷ [])))) TSO.names ≡ true → found_with given_up failures p x.steps o v b ≡ []
  visit_asleep e = with_given_up tso given_up failures p x.steps o v b (tried_enabled p v b is) (up_asleep p v b e)

  -- behind the step, at the place y
  module _ (y : Place) (next : Reached code lengths class threads groups y p (v ++ (b ∷ []))) where
    next_steps : y.steps ≡ x.steps + 1
    next_steps = omega (arith, next.counted, at.counted, length-append v (b ∷ []))

    -- one step fewer is left
    pub visit_less : x.steps < 32 → (32 - y.steps) + (32 - y.steps) + 1 < (32 - x.steps) + (32 - x.steps)
    visit_less h = omega (arith, next_steps, h)

    -- no rule gives it up
    pub visit_on : any (asleep p (v ++ (b ∷ [])) (end_of p (v ++ (b ∷ [])))) TSO.names ≡ false
        → (still : Bool) (bound : List ℕ) → bound_at still bound (x.steps + 1) ≡ past o b
        → found_with given_up failures p x.steps o v b ≡ found_behind given_up failures p y.steps (bound_at still bound y.steps) (v ++ (b ∷ []))
    visit_on c still bound e =
        with_live tso given_up failures p x.steps o v b (tried_enabled p v b is) (up_not p v b is c)
        ∙ ap (λ (q : Option Schedule). found_behind given_up failures p (x.steps + 1) q (v ++ (b ∷ []))) (sym e)
        ∙ ap (λ (k : ℕ). found_behind given_up failures p k (bound_at still bound k) (v ++ (b ∷ []))) (sym next_steps)

-- ---- over the next bytes in turn
-- the run has ended, along the bound
pub bound_met : (failures : Bool) (p : Program) (steps : ℕ) (v : Schedule) (b : List ℕ) → ended TSO (end_of p v) ≡ true
    → found_behind given_up failures p steps (bound_at true b steps) v ≡ []
unfolding bound_at
bound_met failures p steps v b e = behind_bound tso given_up failures p steps v (drop steps b) e

-- apart from it
pub bound_apart : (failures : Bool) (p : Program) (steps : ℕ) (v : Schedule) (b : List ℕ)
    → found_behind given_up failures p steps (bound_at false b steps) v ≡ found_behind given_up failures p steps none v
unfolding bound_at
bound_apart failures p steps v b = refl

-- the programs and prefixes that the place may stand for
abbrev pub Cases : (code lengths class : List ℕ) (x : Place) → Type 0
Cases code lengths class x = (threads : ℕ) × (groups : ℕ) × (p : Program) × (v : Schedule) × Reached code lengths class threads groups x p v

-- what is left to the loop: what the next bytes from t on add completes the whole
abbrev pub Rest : (code lengths class : List ℕ) (failures : Bool) (x : Place) (o : Option Schedule) (out₀ : List ℕ) (room rows : ℕ) (out : List ℕ) (n t : ℕ) → Type 0
Rest code lengths class failures x o out₀ room rows out n t =
    Loop.Rest 48 (Cases code lengths class x) (λ k. failing tso k.2) 22 room (λ k d. found_with given_up failures k.2 x.steps o k.3 d)
    (λ k. found_behind given_up failures k.2 x.steps o k.3) out₀ rows out n t

module _ (code lengths class : List ℕ) (failures : Bool) (x : Place) (o : Option Schedule) (out₀ : List ℕ) (room rows : ℕ) where
  abbrev each : Cases code lengths class x → ℕ → List Schedule
  each k d = found_with given_up failures k.2 x.steps o k.3 d

  abbrev whole : Cases code lengths class x → List Schedule
  whole k = found_behind given_up failures k.2 x.steps o k.3

  abbrev Still : (out : List ℕ) (n t : ℕ) → Type 0
  Still out n t = Rest code lengths class failures x o out₀ room rows out n t

  pub rest_start : (t : ℕ) → ((threads groups : ℕ) (p : Program) (v : Schedule) → Reached code lengths class threads groups x p v → ended TSO (end_of p v) ≡ false)
      → x.steps < 32 → t ≡ low o → Still out₀ rows t
  rest_start t e h q =
      Loop.rest_start 48 (Cases code lengths class x) (λ k. failing tso k.2) 22 room each whole out₀ rows t
      (λ k. behind_branches tso given_up failures k.2 x.steps k.3 o (e k.0 k.1 k.2 k.3 k.4) h ∙ ap (λ (d : ℕ). concat_range (each k) (22 - d) d) (sym q))

  pub iteration_tried : (out out' behind : List ℕ) (n n' k t : ℕ) → t < 22 → length out ≡ length out₀ → Still out n t
      → n' ≤ room → length out' ≡ length out
      → ((threads groups : ℕ) (p : Program) (v : Schedule) → Reached code lengths class threads groups x p v → Adds p room (found_with given_up failures p x.steps o v t) out n out' n')
      → behind ≡ out' → k ≡ n' → (k ≤ room) × (length behind ≡ length out₀) × Still behind k (t + 1)
  iteration_tried out out' behind n n' k t h same rest fits long adds eo en =
      Loop.iteration_tried 48 (Cases code lengths class x) (λ k. failing tso k.2) 22 room each whole out₀ rows out out' behind n n' k t h same rest fits long
      (λ k. adds k.0 k.1 k.2 k.3 k.4) eo en

  -- a turn with a byte that is not tried
  pub iteration_skipped : (out behind : List ℕ) (n k t : ℕ) → t < 22 → n ≤ room → length out ≡ length out₀ → Still out n t
      → ((threads groups : ℕ) (p : Program) (v : Schedule) → Reached code lengths class threads groups x p v → tried p v t ≡ false)
      → behind ≡ out → k ≡ n → (k ≤ room) × (length behind ≡ length out₀) × Still behind k (t + 1)
  iteration_skipped out behind n k t h fits same rest not-tried eo en =
      Loop.iteration_skipped 48 (Cases code lengths class x) (λ k. failing tso k.2) 22 room each whole out₀ rows out behind n k t h fits same rest
      (λ k. untried_none k.2 k.3 t failures x.steps o (not-tried k.0 k.1 k.2 k.3 k.4)) eo en

  -- no byte is left
  pub rest_over : (out : List ℕ) (n t : ℕ) → 22 ≤ t → Still out n t → (threads groups : ℕ) (p : Program) (v : Schedule)
      → Reached code lengths class threads groups x p v → Adds p room (found_behind given_up failures p x.steps o v) out₀ rows out n
  rest_over out n t h rest threads groups p v at =
      Loop.rest_over 48 (Cases code lengths class x) (λ k. failing tso k.2) 22 room each whole out₀ rows out n t h rest (threads, groups, p, v, at)

  -- no room is left
  pub rest_full : (out : List ℕ) (n t : ℕ) → room ≤ n → Still out n t → (threads groups : ℕ) (p : Program) (v : Schedule)
      → Reached code lengths class threads groups x p v → Adds p room (found_behind given_up failures p x.steps o v) out₀ rows out n
  rest_full out n t h rest threads groups p v at =
      Loop.rest_full 48 (Cases code lengths class x) (λ k. failing tso k.2) 22 room each whole out₀ rows out n t h rest (threads, groups, p, v, at)
