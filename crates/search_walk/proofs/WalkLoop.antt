-- The search as the code walks it: with one next step, over the next steps in turn, and at a full schedule.
use Prim.Native.Nat.{ℕ, ◌+◌, ◌-◌, ◌<◌, ◌≤◌}
use mathlib.Core.Path.{◌≡◌, sym, ap, subst, ◌∙◌}
use mathlib.Core.Bool.{Bool, true, false, not}
use mathlib.Core.Option.{Option}
use mathlib.Core.List.{List, [], ◌∷◌, ◌++◌}
use native.Mathlib.Omega.{arith}
use lib.Dec.{eqb}
use lib.ListN.{length, length-append}
use borrow.Author.Tests.{eqb-true, eqb-false, not-true, not-false}
use Rattle.spec_file.specs.Program.{Program}
use Rattle.spec_schedules.specs.Order.{Schedule}
use Rattle.spec_schedules.specs.System.{ended}
use Rattle.theory_search.specs.Search.{low, past}
use Rattle.theory_search.specs.Found.{concat_range}
use Rattle.spec_sc.specs.State.{SC, enabled}
use Rattle.spec_sc.specs.Graph.{end_of}
use Rattle.spec_model.specs.Model.{failing}
use Rattle.spec_sc.specs.Sequential.{sc}
use Rattle.theory_sc.specs.LateSet.{late_set}
use Rattle.theory_sc.specs.Sleepers.{sleepers}
use Rattle.theory_sc.specs.Search.{found_behind, found_with}
use Rattle.theory_sc.proofs.Search.{up_asleep, up_not, with_given_up, with_live, behind_branches}
use Rattle.search_place.specs.Reached.{Reached}
use Rattle.search_place.specs.declared.place.Place.{Place}
use Rattle.search_place.proofs.ReachedStep.{reached_room}
use Rattle.listing_cursor.specs.Bounds.{bound_at}
use Rattle.listing_cursor.specs.declared.aim.Aim.{Aim}
use Rattle.listing_cursor.proofs.AddedRows.{adds_same}
use Rattle.listing_cursor.proofs.WalkLoop as Loop
use Rattle.search_walk.specs.Tried.{tried}
use Rattle.search_tail.specs.Walked.{Adds}
use Rattle.search_walk.proofs.TriedSteps.{tried_enabled, tried_on_time, tried_alone, untried_none}

-- ---- with one next step
module _ (code lengths class : List ℕ) (threads groups : ℕ) (x : Place) (p : Program) (v : Schedule) (at : Reached code lengths class threads groups x p v)
    (failures : Bool) (o : Option Schedule) (t : ℕ) where
  module _ (is : tried p v t ≡ true) where
    ok : enabled (end_of p v) t ≡ true
    ok = tried_enabled p v t is

    -- the step leaves some thread asleep
    pub visit_asleep : not (eqb (sleepers (end_of p (v ++ (t ∷ []))) (late_set p (v ++ (t ∷ [])))) 0) ≡ true → found_with failures p x.steps o v t ≡ []
    visit_asleep e = with_given_up failures p x.steps o v t ok (up_asleep p v t (eqb-false _ 0 (not-true _ e)))

    -- behind the step, at the place y
    module _ (y : Place) (next : Reached code lengths class threads groups y p (v ++ (t ∷ []))) where
      next_steps : y.steps ≡ x.steps + 1
      next_steps = omega (arith, next.counted, at.counted, length-append v (t ∷ []))

      -- one step fewer is left
      pub visit_less : 24 - y.steps < 24 - x.steps
      visit_less = omega (arith, next_steps, reached_room code lengths class threads groups x p v at t ok)

      -- no rule gives it up
      pub visit_on : not (eqb (sleepers (end_of p (v ++ (t ∷ []))) (late_set p (v ++ (t ∷ [])))) 0) ≡ false
          → (still : Bool) (bound : List ℕ) → bound_at still bound (x.steps + 1) ≡ past o t
          → found_with failures p x.steps o v t ≡ found_behind failures p y.steps (bound_at still bound y.steps) (v ++ (t ∷ []))
      visit_on c still bound e =
          with_live failures p x.steps o v t ok (up_not p v t (tried_on_time p v t is) (tried_alone p v t is) (eqb-true _ 0 (not-false _ c)))
          ∙ ap (λ (q : Option Schedule). found_behind failures p (x.steps + 1) q (v ++ (t ∷ []))) (sym e)
          ∙ ap (λ (k : ℕ). found_behind failures p k (bound_at still bound k) (v ++ (t ∷ []))) (sym next_steps)

      -- what is added behind it, with the aim b, is added with it
      pub visit_adds : not (eqb (sleepers (end_of p (v ++ (t ∷ []))) (late_set p (v ++ (t ∷ [])))) 0) ≡ false
          → (room rows : ℕ) (b : Aim) (bound : List ℕ) → b.failures ≡ failures → b.room ≡ room → b.rows ≡ rows → bound_at b.tight bound (x.steps + 1) ≡ past o t
          → (out out' : List ℕ) (n : ℕ) → Adds p b.room (found_behind b.failures p y.steps (bound_at b.tight bound y.steps) (v ++ (t ∷ []))) out b.rows out' n
          → Adds p room (found_with failures p x.steps o v t) out rows out' n
      visit_adds c room rows b bound ef em er e out out' n adds =
          adds_same 24 (failing sc p) room _ _ out out' rows n (visit_on c b.tight bound e)
          (subst (λ (f : Bool). Adds p room (found_behind f p y.steps (bound_at b.tight bound y.steps) (v ++ (t ∷ []))) out rows out' n) ef
          (subst (λ (k : ℕ). Adds p k (found_behind b.failures p y.steps (bound_at b.tight bound y.steps) (v ++ (t ∷ []))) out rows out' n) em
          (subst (λ (k : ℕ). Adds p b.room (found_behind b.failures p y.steps (bound_at b.tight bound y.steps) (v ++ (t ∷ []))) out k out' n) er adds)))

-- none is asleep
pub none_sleeps : (p : Program) (v : Schedule) → not (eqb (sleepers (end_of p v) (late_set p v)) 0) ≡ false → sleepers (end_of p v) (late_set p v) ≡ 0
none_sleeps p v e = eqb-true _ 0 (not-false _ e)

-- an aim that differs in the rows alone
pub as_aimed : (p : Program) (b c : Aim) (steps : ℕ) (bound : List ℕ) (v : Schedule) (t : ℕ) (out : List ℕ) (rows : ℕ) (out' : List ℕ) (n : ℕ)
    → b.failures ≡ c.failures → b.tight ≡ c.tight → b.room ≡ c.room
    → Adds p b.room (found_with b.failures p steps (bound_at b.tight bound steps) v t) out rows out' n
    → Adds p c.room (found_with c.failures p steps (bound_at c.tight bound steps) v t) out rows out' n
as_aimed p b c steps bound v t out rows out' n ef et em adds =
    subst (λ (f : Bool). Adds p c.room (found_with f p steps (bound_at c.tight bound steps) v t) out rows out' n) ef
    (subst (λ (f : Bool). Adds p c.room (found_with b.failures p steps (bound_at f bound steps) v t) out rows out' n) et
    (subst (λ (k : ℕ). Adds p k (found_with b.failures p steps (bound_at b.tight bound steps) v t) out rows out' n) em adds))

-- ---- over the next steps in turn
-- the programs and prefixes that the place may stand for
abbrev pub Cases : (code lengths class : List ℕ) (x : Place) → Type 0
Cases code lengths class x = (threads : ℕ) × (groups : ℕ) × (p : Program) × (v : Schedule) × Reached code lengths class threads groups x p v

-- what is left to the loop: what the next steps from t on add completes the whole
abbrev pub Rest : (code lengths class : List ℕ) (failures : Bool) (x : Place) (o : Option Schedule) (out₀ : List ℕ) (room rows : ℕ) (out : List ℕ) (n t : ℕ) → Type 0
Rest code lengths class failures x o out₀ room rows out n t =
    Loop.Rest 24 (Cases code lengths class x) (λ k. failing sc k.2) 6 room (λ k d. found_with failures k.2 x.steps o k.3 d) (λ k. found_behind failures k.2 x.steps o k.3) out₀ rows out n t

module _ (code lengths class : List ℕ) (failures : Bool) (x : Place) (o : Option Schedule) (out₀ : List ℕ) (room rows : ℕ) where
  abbrev each : Cases code lengths class x → ℕ → List Schedule
  each k d = found_with failures k.2 x.steps o k.3 d

  abbrev whole : Cases code lengths class x → List Schedule
  whole k = found_behind failures k.2 x.steps o k.3

  abbrev Still : (out : List ℕ) (n t : ℕ) → Type 0
  Still out n t = Rest code lengths class failures x o out₀ room rows out n t

  pub rest_start : (t : ℕ) → ((threads groups : ℕ) (p : Program) (v : Schedule) → Reached code lengths class threads groups x p v → ended SC (end_of p v) ≡ false)
      → x.steps < 24 → t ≡ low o → Still out₀ rows t
  rest_start t e h q =
      Loop.rest_start 24 (Cases code lengths class x) (λ k. failing sc k.2) 6 room each whole out₀ rows t
      (λ k. behind_branches failures k.2 x.steps k.3 o (e k.0 k.1 k.2 k.3 k.4) h ∙ ap (λ (d : ℕ). concat_range (each k) (6 - d) d) (sym q))

  pub iteration_tried : (out out' behind : List ℕ) (n n' k t : ℕ) → t < 6 → length out ≡ length out₀ → Still out n t
      → n' ≤ room → length out' ≡ length out
      → ((threads groups : ℕ) (p : Program) (v : Schedule) → Reached code lengths class threads groups x p v → Adds p room (found_with failures p x.steps o v t) out n out' n')
      → behind ≡ out' → k ≡ n' → (k ≤ room) × (length behind ≡ length out₀) × Still behind k (t + 1)
  iteration_tried out out' behind n n' k t h same rest fits long adds eo en =
      Loop.iteration_tried 24 (Cases code lengths class x) (λ k. failing sc k.2) 6 room each whole out₀ rows out out' behind n n' k t h same rest fits long
      (λ k. adds k.0 k.1 k.2 k.3 k.4) eo en

  -- a turn with a thread that is not tried
  pub iteration_skipped : (out behind : List ℕ) (n k t : ℕ) → t < 6 → n ≤ room → length out ≡ length out₀ → Still out n t
      → ((threads groups : ℕ) (p : Program) (v : Schedule) → Reached code lengths class threads groups x p v → tried p v t ≡ false)
      → behind ≡ out → k ≡ n → (k ≤ room) × (length behind ≡ length out₀) × Still behind k (t + 1)
  iteration_skipped out behind n k t h fits same rest not-tried eo en =
      Loop.iteration_skipped 24 (Cases code lengths class x) (λ k. failing sc k.2) 6 room each whole out₀ rows out behind n k t h fits same rest
      (λ k. untried_none k.2 k.3 t failures x.steps o (not-tried k.0 k.1 k.2 k.3 k.4)) eo en

  -- no step is left
  pub rest_over : (out : List ℕ) (n t : ℕ) → 6 ≤ t → Still out n t → (threads groups : ℕ) (p : Program) (v : Schedule)
      → Reached code lengths class threads groups x p v → Adds p room (found_behind failures p x.steps o v) out₀ rows out n
  rest_over out n t h rest threads groups p v at =
      Loop.rest_over 24 (Cases code lengths class x) (λ k. failing sc k.2) 6 room each whole out₀ rows out n t h rest (threads, groups, p, v, at)

  -- no room is left
  pub rest_full : (out : List ℕ) (n t : ℕ) → room ≤ n → Still out n t → (threads groups : ℕ) (p : Program) (v : Schedule)
      → Reached code lengths class threads groups x p v → Adds p room (found_behind failures p x.steps o v) out₀ rows out n
  rest_full out n t h rest threads groups p v at =
      Loop.rest_full 24 (Cases code lengths class x) (λ k. failing sc k.2) 6 room each whole out₀ rows out n t h rest (threads, groups, p, v, at)
