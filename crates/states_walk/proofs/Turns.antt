-- The numbers behind a prefix as the code adds them up without a table: over the next steps in turn.
use Prim.Native.Nat.{ℕ, ◌+◌, ◌-◌, ◌<◌, ◌≤◌, ◌%◌, ◌^◌}
use mathlib.Core.Path.{◌≡◌, sym, subst}
use mathlib.Core.Bool.{false}
use mathlib.Core.List.{List}
use Rattle.spec_file.specs.Program.{Program}
use Rattle.spec_schedules.specs.Order.{Schedule}
use Rattle.spec_schedules.specs.System.{ended}
use Rattle.spec_sc.specs.State.{SC}
use Rattle.spec_sc.specs.Graph.{end_of}
use Rattle.spec_sc.proofs.Lawful.{lawful}
use Rattle.theory_sc.specs.Search.{given_up}
use Rattle.search_place.specs.Reached.{Reached}
use Rattle.search_place.specs.declared.place.Place.{Place}
use Rattle.search_walk.specs.Tried.{tried}
use Rattle.theory_states.specs.Numbers.{sum_range}
use Rattle.theory_states.specs.Wrapped.{Wrapped, Completes}
use Rattle.theory_states.proofs.Numbers.{numbers_branches}
use Rattle.theory_states.proofs.Wrapped.{rest_start, rest_more, rest_same, rest_over}
use Rattle.theory_sc_key.specs.View.{breaks}
use Rattle.states_walk.specs.Known.{numbers_at, numbers_by}
use Rattle.states_walk.proofs.Numbered.{untried_numbers}

-- the programs and prefixes that the place may stand for
abbrev pub Cases : (code lengths class : List ℕ) (x : Place) → Type 0
Cases code lengths class x = (threads : ℕ) × (groups : ℕ) × (p : Program) × (v : Schedule) × Reached code lengths class threads groups x p v

-- what is left to the loop: what the next steps from t on give completes the whole
abbrev pub Left : (code lengths class : List ℕ) (x : Place) (l f t : ℕ) → Type 0
Left code lengths class x l f t = (c : Cases code lengths class x) → Completes (numbers_at c.2 c.3) (sum_range (numbers_by c.2 c.3) (6 - t) t) l f

-- two numbers that are equal to those
abbrev Completed : Program → Schedule → (l f t : ℕ) → Type 0
Completed p v l f t = Completes (numbers_at p v) (sum_range (numbers_by p v) (6 - t) t) l f

completed : (p : Program) (v : Schedule) (l f l' f' t : ℕ) → l' ≡ l → f' ≡ f → Completed p v l f t → Completed p v l' f' t
completed p v l f l' f' t el ef h = subst (λ (i : ℕ). Completed p v i f' t) (sym el) (subst (λ (j : ℕ). Completed p v l j t) (sym ef) h)

module _ (code lengths class : List ℕ) (x : Place) where
  pub left_start : ((threads groups : ℕ) (p : Program) (v : Schedule) → Reached code lengths class threads groups x p v → ended SC (end_of p v) ≡ false)
      → (l f : ℕ) → l ≡ 0 → f ≡ 0 → Left code lengths class x l f 0
  left_start e l f el ef c =
      let p = c.2 in
      let v = c.3 in
      completed p v 0 0 l f 0 el ef (rest_start (numbers_by p v) 6 (numbers_at p v) (numbers_branches SC 6 (given_up p) breaks lawful v (end_of p v) (e c.0 c.1 p v c.4)))

  -- with t, which is tried
  pub left_tried : (l f a b l' f' t : ℕ) → t < 6 → Left code lengths class x l f t
      → ((threads groups : ℕ) (p : Program) (v : Schedule) → Reached code lengths class threads groups x p v → Wrapped (numbers_by p v t) a b)
      → l' ≡ (l + a) % 2 ^ 64 → f' ≡ (f + b) % 2 ^ 64 → Left code lengths class x l' f' (t + 1)
  left_tried l f a b l' f' t h left visited el ef c =
      rest_more (numbers_by c.2 c.3) 6 (numbers_at c.2 c.3) t l f a b l' f' h (left c) (visited c.0 c.1 c.2 c.3 c.4) el ef

  -- with t, which is not
  pub left_skipped : (l f l' f' t : ℕ) → t < 6 → Left code lengths class x l f t
      → ((threads groups : ℕ) (p : Program) (v : Schedule) → Reached code lengths class threads groups x p v → tried p v t ≡ false)
      → l' ≡ l → f' ≡ f → Left code lengths class x l' f' (t + 1)
  left_skipped l f l' f' t h left not-tried el ef c =
      let p = c.2 in
      let v = c.3 in
      completed p v l f l' f' (t + 1) el ef (rest_same (numbers_by p v) 6 (numbers_at p v) t l f h (left c) (untried_numbers p v t (not-tried c.0 c.1 p v c.4)))

  -- no step is left
  pub left_none : (l f t : ℕ) → 6 ≤ t → l < 2 ^ 64 → f < 2 ^ 64 → Left code lengths class x l f t → (c : Cases code lengths class x) → Wrapped (numbers_at c.2 c.3) l f
  left_none l f t h hl hf left c = rest_over (numbers_by c.2 c.3) 6 (numbers_at c.2 c.3) t l f h hl hf (left c)
