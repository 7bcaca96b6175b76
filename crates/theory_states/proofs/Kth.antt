-- THE MEMBER NUMBER k of what is found behind a prefix, by numbers alone: a next byte with as many behind it as k or fewer is passed over, and k
-- falls by them.
use Prim.Native.Nat.{ℕ, zero, suc, ◌+◌, ◌-◌, ◌<◌, ◌≤◌}
use mathlib.Core.Path.{◌≡◌, refl, sym, ap, ap₂, ◌∙◌}
use mathlib.Core.Logic.{◌≢◌}
use mathlib.Core.Bool.{Bool, true, false}
use mathlib.Core.Option.{Option, none, some}
use mathlib.Core.List.{List, [], ◌∷◌, ◌++◌}
use native.Mathlib.Omega.{arith}
use lib.ListN.{length, drop, drop_of_length-le, length-append, length-drop}
use lib.Seq.{drop-append-le, drop-append-add}
use Rattle.spec_schedules.specs.Lists.{head_of}
use Rattle.spec_schedules.specs.Order.{Schedule}
use Rattle.spec_schedules.specs.System.{System, ended}
use Rattle.theory_search.specs.Search.{past, low}
use Rattle.theory_search.specs.Found.{concat_range, found_by, found_from}
use Rattle.theory_search.proofs.Found as Found
use Rattle.theory_states.specs.Positions.{GoesOn}
use Rattle.theory_states.specs.Numbers.{Numbers, sum_range, numbers_by, numbers_from}
use Rattle.theory_states.specs.Kth.{kth}
use Rattle.theory_states.proofs.Found.{with_listed}

-- ---- of two lists, one behind the other
head_front : {A : Type 0} (a b : List A) → 0 < length a → head_of (a ++ b) ≡ head_of a
unfolding head_of
head_front [] b h = absurd (omega arith)
head_front (x ∷ a) b h = refl

kth_front : {A : Type 0} (k : ℕ) (a b : List A) → k < length a → kth k (a ++ b) ≡ kth k a
kth_front k a b h = ap head_of (drop-append-le k a b (omega arith)) ∙ head_front (drop k a) b (simp length-drop (omega arith))

kth_behind : {A : Type 0} (k : ℕ) (a b : List A) → length a ≤ k → kth k (a ++ b) ≡ kth (k - length a) b
kth_behind k a b h =
    let e : k ≡ length a + (k - length a) = omega arith in
    ap head_of (ap (λ (n : ℕ). drop n (a ++ b)) e ∙ drop-append-add a b (k - length a))

module _ (M : System) (top : ℕ) (cut : Schedule → M.State → ℕ → Bool) (Met : Schedule → M.State → Type 0) (on : GoesOn M cut Met) (breaks : M.State → ℕ → Bool)
    (test : Schedule → Bool) (all : (w : Schedule) → test w ≡ true) where
  abbrev F : ℕ → Option Schedule → Schedule → M.State → List Schedule
  F k = λ a b c. found_from M top cut test k a b c

  -- what is found with t as the next step, and how many
  abbrev By : ℕ → Schedule → M.State → ℕ → List Schedule
  By k v σ = found_by M top cut test (F k) none v σ

  abbrev N : ℕ → Schedule → M.State → ℕ → ℕ
  N k v σ t = (numbers_by M top cut breaks (λ w τ. numbers_from M top cut breaks k w τ) v σ t).listed

  -- THE MEMBER NUMBER i with t or a later byte as the next step: among those with t, or behind them
  pub kth_here : (k : ℕ) (v : Schedule) (σ : M.State) → Met v σ → (t i : ℕ) → t < top → i < N k v σ t → kth i (concat_range (By k v σ) (top - t) t) ≡ kth i (By k v σ t)
  kth_here k v σ m t i h l =
      ap (λ (r : List Schedule). kth i r) (Found.concat_range_more (By k v σ) top t h)
      ∙ kth_front i (By k v σ t) (concat_range (By k v σ) (top - (t + 1)) (t + 1)) (omega (arith, with_listed M top cut Met on breaks test all k v σ m t))

  pub kth_later : (k : ℕ) (v : Schedule) (σ : M.State) → Met v σ → (t i : ℕ) → t < top → N k v σ t ≤ i →
      kth i (concat_range (By k v σ) (top - t) t) ≡ kth (i - N k v σ t) (concat_range (By k v σ) (top - (t + 1)) (t + 1))
  kth_later k v σ m t i h l =
      let w = with_listed M top cut Met on breaks test all k v σ m t in
      ap (λ (r : List Schedule). kth i r) (Found.concat_range_more (By k v σ) top t h)
      ∙ kth_behind i (By k v σ t) (concat_range (By k v σ) (top - (t + 1)) (t + 1)) (omega (arith, w))
      ∙ ap (λ (n : ℕ). kth (i - n) (concat_range (By k v σ) (top - (t + 1)) (t + 1))) w
