-- The numbers behind a prefix as the code adds them up: with one next step, over the next steps in turn, and with a table.
use Prim.Native.Nat.{ℕ, ◌+◌, ◌-◌, ◌<◌, ◌≤◌, ◌%◌, ◌^◌}
use mathlib.Core.Path.{◌≡◌, refl, sym, ap, ap₂, subst, ◌∙◌}
use mathlib.Core.Logic.{⊎_elim}
use mathlib.Core.Bool.{Bool, true, false, not, cond}
use mathlib.Core.Option.{some}
use mathlib.Core.List.{List, [], ◌∷◌, ◌++◌}
use native.Mathlib.Omega.{arith}
use lib.Dec.{eqb}
use lib.ListN.{length, get_or, length-append}
use borrow.Author.Tests.{eqb-true, eqb-false, not-true, not-false}
use Rattle.spec_file.specs.Program.{Program}
use Rattle.spec_file.specs.WellFormed.{WellFormed}
use Rattle.spec_schedules.specs.Order.{Schedule}
use Rattle.spec_schedules.specs.System.{Allowed, ended}
use Rattle.spec_schedules.proofs.Runs.{run_snoc}
use Rattle.spec_sc.specs.State.{State, Thread, SC, enabled, start, thread_of, advanced}
use Rattle.spec_sc.specs.Graph.{end_of}
use Rattle.spec_sc.proofs.Lawful.{lawful}
use Rattle.spec_sc.proofs.Steps.{enabled_small, enabled_range, thread_own}
use Rattle.machine.specs.Held.{idle}
use Rattle.theory_sc.specs.LateSet.{late_set}
use Rattle.theory_sc.specs.Sleepers.{sleepers}
use Rattle.theory_sc.specs.Search.{given_up}
use Rattle.theory_sc.proofs.Search.{up_asleep, up_not}
use Rattle.search_place.specs.Reached.{Reached as At}
use Rattle.search_place.specs.declared.place.Place.{Place}
use Rattle.search_place.proofs.ReachedStep.{reached_room}
use Rattle.search_walk.specs.Tried.{tried}
use Rattle.search_walk.proofs.TriedSteps.{tried_enabled, tried_on_time, tried_alone, untried}
use Rattle.table.specs.Places.{said}
use Rattle.table.specs.Answers.{Honest}
use Rattle.theory_states.specs.Positions.{Reached}
use Rattle.theory_states.specs.Numbers.{Numbers, nothing, charged, sum_range, numbers}
use Rattle.theory_states.specs.Wrapped.{Wrapped, Completes}
use Rattle.theory_states.proofs.Numbers.{by_not, by_cut, by_live, numbers_ended, numbers_branches}
use Rattle.theory_states.proofs.Wrapped.{charged_wrapped, rest_start, rest_more, rest_same, rest_over, entries_put}
use Rattle.theory_sc_key.specs.View.{breaks}
use Rattle.theory_sc_key.specs.Key.{word_key, Wide}
use Rattle.theory_sc_key.proofs.Decides.{decides, as_wide}
use Rattle.states_key.specs.Stands.{Stands}
use Rattle.states_key.specs.declared.spot.Spot.{Spot}
use Rattle.states_walk.specs.Known.{Numbered, numbers_at, numbers_by}

-- the numbers behind any prefix
abbrev N : Program → Schedule → State → Numbers
N p v σ = numbers SC 6 (given_up p) breaks v σ

-- ---- with one next step
module _ (p : Program) (v : Schedule) (t : ℕ) where
  -- some are asleep behind it
  abbrev pub Asleep : Bool → Type 0
  Asleep b = not (eqb (sleepers (end_of p (v ++ (t ∷ []))) (late_set p (v ++ (t ∷ [])))) 0) ≡ b

  pub asleep_none : tried p v t ≡ true → Asleep true → Wrapped (numbers_by p v t) 0 0
  asleep_none is e =
      let q = by_cut SC 6 (given_up p) breaks (N p) v (end_of p v) t (tried_enabled p v t is) (up_asleep p v t (eqb-false _ 0 (not-true _ e))) in
      (ap (λ (m : Numbers). m.listed % 2 ^ 64) (sym q), ap (λ (m : Numbers). m.failing % 2 ^ 64) (sym q))

  pub awake_cut : tried p v t ≡ true → Asleep false → given_up p v (end_of p v) t ≡ false
  awake_cut is e = up_not p v t (tried_on_time p v t is) (tried_alone p v t is) (eqb-true _ 0 (not-false _ e))

  -- none are: what is behind it, where all fail if the step did
  pub awake_charged : tried p v t ≡ true → Asleep false → (b : Bool) → b ≡ breaks (end_of p v) t → (l f : ℕ) → Wrapped (charged b (numbers_at p (v ++ (t ∷ [])))) l f
      → Wrapped (numbers_by p v t) l f
  awake_charged is e b eb l f w =
      let q = by_live SC 6 (given_up p) breaks (N p) v (end_of p v) t (tried_enabled p v t is) (awake_cut is e)
      ∙ ap₂ (λ (c : Bool) (τ : State). charged c (N p (v ++ (t ∷ [])) τ)) (sym eb) (sym (run_snoc SC (start p) v t)) in
      (w.0 ∙ ap (λ (m : Numbers). m.listed % 2 ^ 64) (sym q), w.1 ∙ ap (λ (m : Numbers). m.failing % 2 ^ 64) (sym q))

  pub awake_numbers : tried p v t ≡ true → Asleep false → (b : Bool) → b ≡ breaks (end_of p v) t → (l f l' f' : ℕ) → Wrapped (numbers_at p (v ++ (t ∷ []))) l f
      → l' ≡ l → f' ≡ cond b l f → Wrapped (numbers_by p v t) l' f'
  awake_numbers is e b eb l f l' f' w el ef =
      let r = charged_wrapped b (numbers_at p (v ++ (t ∷ []))) l f f' w ef in
      awake_charged is e b eb l' f' (el ∙ r.0, r.1)

  pub untried_numbers : tried p v t ≡ false → numbers_by p v t ≡ nothing
  untried_numbers e = ⊎_elim (λ (m : enabled (end_of p v) t ≡ false). by_not SC 6 (given_up p) breaks (N p) v (end_of p v) t m)
      (λ (m : (enabled (end_of p v) t ≡ true) × (given_up p v (end_of p v) t ≡ true)). by_cut SC 6 (given_up p) breaks (N p) v (end_of p v) t m.0 m.1) (untried p v t e)

  -- behind its step, at the place y, the step failed exactly if its thread has
  pub reached_failed : (code lengths class : List ℕ) (threads groups : ℕ) (y : Place) → At code lengths class threads groups y p (v ++ (t ∷ [])) → enabled (end_of p v) t ≡ true
      → (u : ℕ) → u ≡ t → (get_or y.threads u idle).failed ≡ breaks (end_of p v) t
  unfolding breaks advanced
  reached_failed code lengths class threads groups y next ok u e =
      ap (λ (i : ℕ). (get_or y.threads i idle).failed) e
      ∙ sym (next.holds.threads t (enabled_small (end_of p v) t ok)).failed
      ∙ ap (λ (τ : State). (thread_of τ t).local.failed) (run_snoc SC (start p) v t)
      ∙ ap (λ (h : Thread). h.local.failed) (thread_own (end_of p v) t (enabled_range (end_of p v) t ok))

  -- behind its step, at the place y, one step fewer is left
  pub reached_less : (code lengths class : List ℕ) (threads groups : ℕ) (y : Place) → At code lengths class threads groups y p (v ++ (t ∷ [])) → enabled (end_of p v) t ≡ true
      → (x : Place) → At code lengths class threads groups x p v → 24 - y.steps < 24 - x.steps
  reached_less code lengths class threads groups y next ok x at =
      omega (arith, next.counted, at.counted, length-append v (t ∷ []), reached_room code lengths class threads groups x p v at t ok)

  -- behind its step, at the spot y
  module _ (code lengths class : List ℕ) (threads groups : ℕ) (y : Spot) (next : Stands code lengths class threads groups y p (v ++ (t ∷ []))) (ok : enabled (end_of p v) t ≡ true) where
    -- the step failed exactly if its thread has
    pub step_failed : (u : ℕ) → u ≡ t → (get_or y.place.threads u idle).failed ≡ breaks (end_of p v) t
    step_failed u e = reached_failed code lengths class threads groups y.place next.reached ok u e

    -- one step fewer is left
    pub step_less : (x : Spot) → Stands code lengths class threads groups x p v → 24 - y.place.steps < 24 - x.place.steps
    step_less x at = reached_less code lengths class threads groups y.place next.reached ok x.place at.reached

-- ---- with a table
module _ (p : Program) (w : WellFormed p) (n slots : ℕ) (wide : Wide n p) (v : Schedule) (a : Allowed SC (start p) v) where
  -- what the table says are the numbers
  pub recalled : (m k : List ℕ) → k ≡ word_key n p v (end_of p v) → Numbered p n slots m → (l f : ℕ) → said slots 2 m k ≡ some (l ∷ f ∷ []) → Wrapped (numbers_at p v) l f
  recalled m k e true-table l f s =
      let q = true-table (v, end_of p v) (refl, a) (l ∷ f ∷ []) (ap (said slots 2 m) (sym e) ∙ s) in
      (ap (λ (z : List ℕ). get_or z 0 0) q, ap (λ (z : List ℕ). get_or z 1 0) q)

  -- the numbers put into it leave it true
  pub kept : (m m' k : List ℕ) → k ≡ word_key n p v (end_of p v) → (l f : ℕ) → Wrapped (numbers_at p v) l f → Honest slots k (l ∷ f ∷ []) m m' → Numbered p n slots m → Numbered p n slots m'
  kept m m' k e l f right honest true-table =
      entries_put SC lawful 6 (given_up p) breaks (Reached SC (start p)) (word_key n p) (λ j c. said slots 2 m j ≡ some c) (λ j c. said slots 2 m' j ≡ some c)
      (λ j. length j ≡ length (word_key n p v (end_of p v))) (λ u σ r. as_wide p n wide u σ r ∙ sym (as_wide p n wide v (end_of p v) (refl, a))) (decides p w n)
      v (end_of p v) (refl, a) (l ∷ f ∷ []) (ap₂ (λ (i j : ℕ). i ∷ j ∷ []) right.0 right.1)
      (subst (λ (j : List ℕ). Honest slots j (l ∷ f ∷ []) m m') e honest) true-table

-- ---- over the next steps in turn
-- the programs and prefixes that the spot may stand for
abbrev pub Cases : (code lengths class : List ℕ) (x : Spot) → Type 0
Cases code lengths class x = (threads : ℕ) × (groups : ℕ) × (p : Program) × (v : Schedule) × Stands code lengths class threads groups x p v

-- what is left to the loop: what the next steps from t on give completes the whole; and the table stays true
abbrev pub Rest : (code lengths class : List ℕ) (n slots : ℕ) (x : Spot) (table₀ table : List ℕ) (l f t : ℕ) → Type 0
Rest code lengths class n slots x table₀ table l f t =
    (c : Cases code lengths class x) → Wide n c.2 → Numbered c.2 n slots table₀
    → Completes (numbers_at c.2 c.3) (sum_range (numbers_by c.2 c.3) (6 - t) t) l f × Numbered c.2 n slots table

module _ (code lengths class : List ℕ) (n slots : ℕ) (x : Spot) (table₀ : List ℕ) where
  abbrev Still : (table : List ℕ) (l f t : ℕ) → Type 0
  Still table l f t = Rest code lengths class n slots x table₀ table l f t

  pub turns_start : ((threads groups : ℕ) (p : Program) (v : Schedule) → Stands code lengths class threads groups x p v → ended SC (end_of p v) ≡ false) → Still table₀ 0 0 0
  turns_start e c wide true-table =
      let p = c.2 in
      let v = c.3 in
      (rest_start (numbers_by p v) 6 (numbers_at p v) (numbers_branches SC 6 (given_up p) breaks lawful v (end_of p v) (e c.0 c.1 p v c.4)), true-table)

  -- with t, which is tried
  pub turn_tried : (table table' behind : List ℕ) (l f a b l' f' t : ℕ) → t < 6 → Still table l f t
      → ((threads groups : ℕ) (p : Program) (v : Schedule) → Stands code lengths class threads groups x p v → Wide n p → Numbered p n slots table → Wrapped (numbers_by p v t) a b × Numbered p n slots table')
      → behind ≡ table' → l' ≡ (l + a) % 2 ^ 64 → f' ≡ (f + b) % 2 ^ 64 → Still behind l' f' (t + 1)
  turn_tried table table' behind l f a b l' f' t h still visited eb el ef c wide true-table =
      let p = c.2 in
      let v = c.3 in
      let before = still c wide true-table in
      let r = visited c.0 c.1 p v c.4 wide before.1 in
      (rest_more (numbers_by p v) 6 (numbers_at p v) t l f a b l' f' h before.0 r.0 el ef, subst (Numbered p n slots) (sym eb) r.1)

  -- with t, which is not
  pub turn_skipped : (table behind : List ℕ) (l f l' f' t : ℕ) → t < 6 → Still table l f t
      → ((threads groups : ℕ) (p : Program) (v : Schedule) → Stands code lengths class threads groups x p v → tried p v t ≡ false)
      → behind ≡ table → l' ≡ l → f' ≡ f → Still behind l' f' (t + 1)
  turn_skipped table behind l f l' f' t h still not-tried eb el ef c wide true-table =
      let p = c.2 in
      let v = c.3 in
      let before = still c wide true-table in (
        subst (λ (i : ℕ). Completes (numbers_at p v) (sum_range (numbers_by p v) (6 - (t + 1)) (t + 1)) i f') (sym el)
            (subst (λ (j : ℕ). Completes (numbers_at p v) (sum_range (numbers_by p v) (6 - (t + 1)) (t + 1)) l j) (sym ef)
            (rest_same (numbers_by p v) 6 (numbers_at p v) t l f h before.0 (untried_numbers p v t (not-tried c.0 c.1 p v c.4)))),
        subst (Numbered p n slots) (sym eb) before.1,
      )

  -- no step is left
  pub turns_over : (table : List ℕ) (l f t : ℕ) → 6 ≤ t → l < 2 ^ 64 → f < 2 ^ 64 → Still table l f t → (c : Cases code lengths class x) → Wide n c.2 → Numbered c.2 n slots table₀
      → Wrapped (numbers_at c.2 c.3) l f × Numbered c.2 n slots table
  turns_over table l f t h hl hf still c wide true-table =
      let before = still c wide true-table in
      (rest_over (numbers_by c.2 c.3) 6 (numbers_at c.2 c.3) t l f h hl hf before.0, before.1)

-- nobody may step
pub ended_one : (p : Program) (v : Schedule) → ended SC (end_of p v) ≡ true → Wrapped (numbers_at p v) 1 0
ended_one p v e = let q = numbers_ended SC 6 (given_up p) breaks lawful v (end_of p v) e in (ap (λ (m : Numbers). m.listed % 2 ^ 64) (sym q), ap (λ (m : Numbers). m.failing % 2 ^ 64) (sym q))
