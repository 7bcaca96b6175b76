-- THE MEMBER NUMBER i behind a prefix, over the next steps in turn: a step with more than i behind it leads to it, one with no more is passed over, and i
-- falls by them.
use Prim.Native.Nat.{ℕ, ◌+◌, ◌-◌, ◌<◌, ◌≤◌, ◌%◌, ◌^◌}
use mathlib.Core.Path.{◌≡◌, refl, sym, ap, subst, ◌∙◌}
use mathlib.Core.Bool.{Bool, true, false}
use mathlib.Core.Option.{Option, none}
use mathlib.Core.List.{List, [], ◌∷◌, ◌++◌}
use native.Mathlib.Omega.{arith}
use lib.ListN.{length}
use lib.Seq.{drop-nil}
use Rattle.spec_file.specs.Program.{Program}
use Rattle.spec_file.specs.WellFormed.{WellFormed}
use Rattle.spec_schedules.specs.Lists.{head_of}
use Rattle.spec_schedules.specs.Order.{Schedule}
use Rattle.spec_schedules.specs.System.{Allowed, ended}
use Rattle.spec_schedules.proofs.After.{head_nil}
use Rattle.spec_sc.specs.State.{SC, start}
use Rattle.spec_sc.specs.Graph.{end_of}
use Rattle.spec_sc.specs.Sequential.{sc}
use Rattle.theory_search.specs.Found.{concat_range}
use Rattle.theory_search.specs.ModelSearch.{looked_for}
use Rattle.theory_search.proofs.Found.{low_none, past_none, concat_range_more, concat_range_over}
use Rattle.theory_sc.specs.Search.{given_up, found_behind, found_with}
use Rattle.theory_sc.proofs.Search.{with_live, behind_branches}
use Rattle.search_place.proofs.ReachedStep.{reached_open}
use Rattle.search_walk.specs.Tried.{tried}
use Rattle.search_walk.proofs.TriedSteps.{tried_enabled, untried_none}
use Rattle.theory_sc_key.specs.View.{breaks}
use Rattle.theory_sc_key.specs.Key.{Wide}
use Rattle.theory_states.specs.Positions.{Reached}
use Rattle.theory_states.specs.Numbers.{Numbers, numbers}
use Rattle.theory_states.specs.Wrapped.{Wrapped}
use Rattle.theory_states.specs.Kth.{kth}
use Rattle.theory_states.proofs.Numbers.{by_cut}
use Rattle.theory_states.proofs.Kth.{kth_here, kth_later}
use Rattle.states_key.specs.Stands.{Stands}
use Rattle.states_key.specs.declared.spot.Spot.{Spot}
use Rattle.states_walk.specs.Known.{Numbered, numbers_by}
use Rattle.states_walk.proofs.Numbered.{Cases}
use Rattle.states_member.proofs.Exact.{on, wanted, exact}

-- nothing has no member
kth_nil : (i : ℕ) → kth {A = Schedule} i [] ≡ none
kth_nil i = ap head_of (drop-nil i) ∙ head_nil

module _ (p : Program) (v : Schedule) (steps : ℕ) where
  -- what is found with d as the next step
  abbrev With : ℕ → List Schedule
  With d = found_with false p steps none v d

  kth_start : ended SC (end_of p v) ≡ false → steps < 24 → (i : ℕ) → kth i (found_behind false p steps none v) ≡ kth i (concat_range With (6 - 0) 0)
  kth_start e h i = ap (λ (r : List Schedule). kth i r) (behind_branches false p steps v none e h ∙ ap (λ (j : ℕ). concat_range With (6 - j) j) low_none)

  kth_untried : (t i : ℕ) → t < 6 → tried p v t ≡ false → kth i (concat_range With (6 - t) t) ≡ kth i (concat_range With (6 - (t + 1)) (t + 1))
  kth_untried t i h e =
      ap (λ (r : List Schedule). kth i r)
      (concat_range_more With 6 t h ∙ ap (λ (r : List Schedule). r ++ concat_range With (6 - (t + 1)) (t + 1)) (untried_none p v t false steps none e))

  kth_over : (t i : ℕ) → 6 ≤ t → kth i (concat_range With (6 - t) t) ≡ none
  kth_over t i h = ap (λ (r : List Schedule). kth i r) (concat_range_over With 6 t h) ∙ kth_nil i

  module _ (w : WellFormed p) (a : Allowed SC (start p) v) (counted : length v ≡ steps) where
    -- a step with some behind it is not given up
    uncut : (t i l f : ℕ) → tried p v t ≡ true → Wrapped (numbers_by p v t) l f → i < l → given_up p v (end_of p v) t ≡ false
    uncut t i l f is q h = go (given_up p v (end_of p v) t) refl
      where
        go : (b : Bool) → given_up p v (end_of p v) t ≡ b → given_up p v (end_of p v) t ≡ false
        go false e = e
        go true e =
            let z : l ≡ 0 = q.0 ∙ ap (λ (n : Numbers). n.listed % 2 ^ 64) (by_cut SC 6 (given_up p) breaks (λ u τ. numbers SC 6 (given_up p) breaks u τ) v (end_of p v) t (tried_enabled p v t is) e) in
            absurd (omega (arith, z, h))

    kth_found : (t i l f : ℕ) → t < 6 → tried p v t ≡ true → Wrapped (numbers_by p v t) l f → i < l →
        kth i (concat_range With (6 - t) t) ≡ kth i (found_behind false p (steps + 1) none (v ++ (t ∷ [])))
    kth_found t i l f h is q less =
        kth_here SC 6 (given_up p) (Reached SC (start p)) (on p) breaks (looked_for sc false p) (wanted p) (24 - steps - 1) v (end_of p v) (refl, a) t i h (omega (arith, exact p w v a steps counted t l f q, less))
        ∙ ap (λ (r : List Schedule). kth i r)
        (with_live false p steps none v t (tried_enabled p v t is) (uncut t i l f is q less) ∙ ap (λ (o : Option Schedule). found_behind false p (steps + 1) o (v ++ (t ∷ []))) (past_none t))

    kth_passed : (t i l f : ℕ) → t < 6 → Wrapped (numbers_by p v t) l f → l ≤ i → kth i (concat_range With (6 - t) t) ≡ kth (i - l) (concat_range With (6 - (t + 1)) (t + 1))
    kth_passed t i l f h q most =
        let e = exact p w v a steps counted t l f q in
        kth_later SC 6 (given_up p) (Reached SC (start p)) (on p) breaks (looked_for sc false p) (wanted p) (24 - steps - 1) v (end_of p v) (refl, a) t i h (omega (arith, e, most))
        ∙ ap (λ (n : ℕ). kth (i - n) (concat_range With (6 - (t + 1)) (t + 1))) (sym e)

-- ---- over the next steps in turn
-- what is left to the loop: the member number i₀ of all is the member number i with t or a later step; and the table stays true
abbrev pub Seeks : (code lengths class : List ℕ) (n slots : ℕ) (x : Spot) (table₀ : List ℕ) (i₀ : ℕ) (table : List ℕ) (i t : ℕ) → Type 0
Seeks code lengths class n slots x table₀ i₀ table i t =
    (c : Cases code lengths class x) → ended SC (end_of c.2 c.3) ≡ false → Wide n c.2 → Numbered c.2 n slots table₀
    → (kth i₀ (found_behind false c.2 x.place.steps none c.3) ≡ kth i (concat_range (λ d. found_with false c.2 x.place.steps none c.3 d) (6 - t) t)) × Numbered c.2 n slots table

module _ (code lengths class : List ℕ) (n slots : ℕ) (x : Spot) (table₀ : List ℕ) (i₀ : ℕ) where
  abbrev Still : (table : List ℕ) (i t : ℕ) → Type 0
  Still table i t = Seeks code lengths class n slots x table₀ i₀ table i t

  -- what counting with t gives
  abbrev pub Visited : (table table' : List ℕ) (l f t : ℕ) → Type 0
  Visited table table' l f t = (threads groups : ℕ) (p : Program) (v : Schedule) → Stands code lengths class threads groups x p v → Wide n p → Numbered p n slots table
      → Wrapped (numbers_by p v t) l f × Numbered p n slots table'

  abbrev pub Tried : Bool → ℕ → Type 0
  Tried b t = (threads groups : ℕ) (p : Program) (v : Schedule) → Stands code lengths class threads groups x p v → tried p v t ≡ b

  pub seeks_start : Still table₀ i₀ 0
  seeks_start c going wide right =
      (kth_start c.2 c.3 x.place.steps going (reached_open code lengths class c.0 c.1 x.place c.2 c.3 c.4.reached going) i₀, right)

  -- t leads to the member
  pub seeks_found : (table table' : List ℕ) (i l f t : ℕ) → t < 6 → Still table i t → Tried true t → Visited table table' l f t → i < l
      → (c : Cases code lengths class x) → ended SC (end_of c.2 c.3) ≡ false → Wide n c.2 → Numbered c.2 n slots table₀
      → (kth i₀ (found_behind false c.2 x.place.steps none c.3) ≡ kth i (found_behind false c.2 (x.place.steps + 1) none (c.3 ++ (t ∷ [])))) × Numbered c.2 n slots table'
  seeks_found table table' i l f t h still is visited less c going wide right =
      let at = c.4.reached in
      let before = still c going wide right in
      let q = visited c.0 c.1 c.2 c.3 c.4 wide before.1 in (
        before.0 ∙ kth_found c.2 c.3 x.place.steps at.loaded.well_formed at.allowed at.counted t i l f h (is c.0 c.1 c.2 c.3 c.4) q.0 less,
        q.1,
      )

  -- t is passed over
  pub seeks_passed : (table table' behind : List ℕ) (i i' l f t : ℕ) → t < 6 → Still table i t → Visited table table' l f t → l ≤ i → behind ≡ table' → i' ≡ i - l → Still behind i' (t + 1)
  seeks_passed table table' behind i i' l f t h still visited most eb ei c going wide right =
      let at = c.4.reached in
      let before = still c going wide right in
      let q = visited c.0 c.1 c.2 c.3 c.4 wide before.1 in (
        before.0 ∙ kth_passed c.2 c.3 x.place.steps at.loaded.well_formed at.allowed at.counted t i l f h q.0 most
            ∙ ap (λ (j : ℕ). kth j (concat_range (λ d. found_with false c.2 x.place.steps none c.3 d) (6 - (t + 1)) (t + 1))) (sym ei),
        subst (Numbered c.2 n slots) (sym eb) q.1,
      )

  -- t is not tried
  pub seeks_skipped : (table behind : List ℕ) (i i' t : ℕ) → t < 6 → Still table i t → Tried false t → behind ≡ table → i' ≡ i → Still behind i' (t + 1)
  seeks_skipped table behind i i' t h still not-tried eb ei c going wide right =
      let before = still c going wide right in (
        before.0 ∙ kth_untried c.2 c.3 x.place.steps t i h (not-tried c.0 c.1 c.2 c.3 c.4)
            ∙ ap (λ (j : ℕ). kth j (concat_range (λ d. found_with false c.2 x.place.steps none c.3 d) (6 - (t + 1)) (t + 1))) (sym ei),
        subst (Numbered c.2 n slots) (sym eb) before.1,
      )

  -- no step is left
  pub seeks_over : (table : List ℕ) (i t : ℕ) → 6 ≤ t → Still table i t
      → (c : Cases code lengths class x) → ended SC (end_of c.2 c.3) ≡ false → Wide n c.2 → Numbered c.2 n slots table₀
      → (kth i₀ (found_behind false c.2 x.place.steps none c.3) ≡ none) × Numbered c.2 n slots table
  seeks_over table i t h still c going wide right =
      let before = still c going wide right in
      (before.0 ∙ kth_over c.2 c.3 x.place.steps t i h, before.1)
