-- How many have a smaller next step than b, added up over the next steps before it in turn; and whether the search gives up a step.
use Prim.Native.Nat.{ℕ, ◌+◌, ◌-◌, ◌<◌, ◌≤◌, ◌%◌, ◌^◌}
use mathlib.Core.Path.{◌≡◌, refl, sym, subst, ◌∙◌}
use mathlib.Core.Logic.{⊎_elim}
use mathlib.Core.Bool.{Bool, true, false, true≢false}
use mathlib.Core.List.{List}
use borrow.Author.Tests.{eqb-false, not-true}
use Rattle.spec_file.specs.Program.{Program}
use Rattle.spec_schedules.specs.Order.{Schedule}
use Rattle.spec_sc.specs.State.{enabled}
use Rattle.spec_sc.specs.Graph.{end_of}
use Rattle.theory_sc.specs.Search.{given_up}
use Rattle.theory_sc.proofs.Search.{up_asleep}
use Rattle.search_walk.specs.Tried.{tried}
use Rattle.search_walk.proofs.TriedSteps.{untried}
use Rattle.theory_sc_key.specs.Key.{Wide}
use Rattle.theory_states.specs.Numbers.{sum_range}
use Rattle.theory_states.specs.Wrapped.{Wrapped, Completes}
use Rattle.theory_states.proofs.Wrapped.{rest_start, rest_more, rest_same, rest_over}
use Rattle.states_key.specs.declared.spot.Spot.{Spot}
use Rattle.states_walk.specs.Known.{Numbered, numbers_by}
use Rattle.states_walk.proofs.Numbered.{Asleep, awake_cut, untried_numbers, Cases}
use Rattle.states_member.proofs.Choices.{Visited, Tried}

-- ---- whether a step is given up
module _ (p : Program) (v : Schedule) (t : ℕ) where
  pub untried_up : enabled (end_of p v) t ≡ true → tried p v t ≡ false → true ≡ given_up p v (end_of p v) t
  untried_up e q = ⊎_elim (λ (m : enabled (end_of p v) t ≡ false). absurd (true≢false (sym e ∙ m))) (λ (m : (enabled (end_of p v) t ≡ true) × (given_up p v (end_of p v) t ≡ true)). sym m.1) (untried p v t q)

  pub asleep_up : tried p v t ≡ true → (b : Bool) → Asleep p v t b → b ≡ given_up p v (end_of p v) t
  asleep_up is true e = sym (up_asleep p v t (eqb-false _ 0 (not-true _ e)))
  asleep_up is false e = sym (awake_cut p v t is e)

-- ---- over the next steps before b
-- what is left to the loop: what the steps from t on give completes the whole; and the table stays true
abbrev pub Rest : (code lengths class : List ℕ) (n slots : ℕ) (x : Spot) (b : ℕ) (table₀ table : List ℕ) (l f t : ℕ) → Type 0
Rest code lengths class n slots x b table₀ table l f t =
    (c : Cases code lengths class x) → Wide n c.2 → Numbered c.2 n slots table₀
    → Completes (sum_range (numbers_by c.2 c.3) b 0) (sum_range (numbers_by c.2 c.3) (b - t) t) l f × Numbered c.2 n slots table

module _ (code lengths class : List ℕ) (n slots : ℕ) (x : Spot) (b : ℕ) (table₀ : List ℕ) where
  abbrev Still : (table : List ℕ) (l f t : ℕ) → Type 0
  Still table l f t = Rest code lengths class n slots x b table₀ table l f t

  pub smaller_start : Still table₀ 0 0 0
  smaller_start c wide right = (rest_start (numbers_by c.2 c.3) b (sum_range (numbers_by c.2 c.3) b 0) refl, right)

  -- with t, which is tried
  pub smaller_tried : (i₀ : ℕ) (table table' behind : List ℕ) (l f a d l' f' t : ℕ) → t < b → Still table l f t → Visited code lengths class n slots x table₀ i₀ table table' a d t
      → behind ≡ table' → l' ≡ (l + a) % 2 ^ 64 → f' ≡ (f + d) % 2 ^ 64 → Still behind l' f' (t + 1)
  smaller_tried i₀ table table' behind l f a d l' f' t h still visited eb el ef c wide right =
      let before = still c wide right in
      let r = visited c.0 c.1 c.2 c.3 c.4 wide before.1 in
      (rest_more (numbers_by c.2 c.3) b (sum_range (numbers_by c.2 c.3) b 0) t l f a d l' f' h before.0 r.0 el ef, subst (Numbered c.2 n slots) (sym eb) r.1)

  -- with t, which is not
  pub smaller_skipped : (i₀ : ℕ) (table behind : List ℕ) (l f l' f' t : ℕ) → t < b → Still table l f t → Tried code lengths class n slots x table₀ i₀ false t
      → behind ≡ table → l' ≡ l → f' ≡ f → Still behind l' f' (t + 1)
  smaller_skipped i₀ table behind l f l' f' t h still not-tried eb el ef c wide right =
      let p = c.2 in
      let v = c.3 in
      let before = still c wide right in (
        subst (λ (i : ℕ). Completes (sum_range (numbers_by p v) b 0) (sum_range (numbers_by p v) (b - (t + 1)) (t + 1)) i f') (sym el)
            (subst (λ (j : ℕ). Completes (sum_range (numbers_by p v) b 0) (sum_range (numbers_by p v) (b - (t + 1)) (t + 1)) l j) (sym ef)
            (rest_same (numbers_by p v) b (sum_range (numbers_by p v) b 0) t l f h before.0 (untried_numbers p v t (not-tried c.0 c.1 p v c.4)))),
        subst (Numbered p n slots) (sym eb) before.1,
      )

  -- no step is left
  pub smaller_over : (table : List ℕ) (l f t : ℕ) → b ≤ t → l < 2 ^ 64 → f < 2 ^ 64 → Still table l f t → (c : Cases code lengths class x) → Wide n c.2 → Numbered c.2 n slots table₀
      → Wrapped (sum_range (numbers_by c.2 c.3) b 0) l f × Numbered c.2 n slots table
  smaller_over table l f t h hl hf still c wide right =
      let before = still c wide right in
      (rest_over (numbers_by c.2 c.3) b (sum_range (numbers_by c.2 c.3) b 0) t l f h hl hf before.0, before.1)
