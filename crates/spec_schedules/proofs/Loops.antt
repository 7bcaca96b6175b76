-- The definitions as a loop in code meets them, one turn at a time: what is left, counted in numbers, equals the whole.
use mathlib.Core.Path.{◌≡◌, refl, sym, ap, ap₂, ◌∙◌}
use mathlib.Core.Bool.{Bool, true, false}
use mathlib.Core.Option.{none, some}
use mathlib.Core.List.Memᴰ
use mathlib.Core.List.{List, [], ◌∷◌, map}
use Prim.Native.Nat.{ℕ, zero, suc, ◌+◌, ◌-◌, ◌<◌, ◌≤◌}
use native.Mathlib.Omega.{arith}
use native.Mathlib.Numerals.{add-one, sub-one}
use lib.ListN.{length, get_or, take}
use Rattle.spec_schedules.specs.Lists.{range, any, all, find}
use Rattle.spec_schedules.specs.System.{System}
use Rattle.spec_schedules.specs.Greedy.{greedy}
use Rattle.spec_schedules.proofs.Lists.{any_of, find_yes, find_no}

-- one turn of `any`
pub any_nil : {A : Type 0} (f : A → Bool) → any f [] ≡ false
unfolding any
any_nil f = refl

pub any_skip : {A : Type 0} (f : A → Bool) (x : A) (l : List A) → f x ≡ false → any f (x ∷ l) ≡ any f l
unfolding any
any_skip f x l e = rw (e, any)

-- the numbers from d on, j of them
pub range_none : (d j : ℕ) → j ≡ 0 → range d j ≡ []
unfolding range
range_none d j e = rw e

pub range_more : (d j : ℕ) → 0 < j → range d j ≡ d ∷ range (d + 1) (j - 1)
unfolding range
range_more d zero h = absurd (omega arith)
range_more d (suc j) h = rw (add-one, sub-one)

-- the first of them that passes a test
pub find_none_left : (f : ℕ → Bool) (d j : ℕ) → j ≡ 0 → find f (range d j) ≡ none
unfolding find
find_none_left f d j e = ap (find f) (range_none d j e)

pub find_here : (f : ℕ → Bool) (d j : ℕ) → 0 < j → f d ≡ true → find f (range d j) ≡ some d
find_here f d j h e = ap (find f) (range_more d j h) ∙ find_yes f d (range (d + 1) (j - 1)) e

pub find_later : (f : ℕ → Bool) (d j : ℕ) → 0 < j → f d ≡ false → find f (range d j) ≡ find f (range (d + 1) (j - 1))
find_later f d j h e = ap (find f) (range_more d j h) ∙ find_no f d (range (d + 1) (j - 1)) e

-- whether some of them passes it
pub any_over : (f : ℕ → Bool) (d j : ℕ) → j ≡ 0 → any f (range d j) ≡ false
any_over f d j e = ap (any f) (range_none d j e) ∙ any_nil f

pub any_here : (f : ℕ → Bool) (d j : ℕ) → 0 < j → f d ≡ true → any f (range d j) ≡ true
any_here f d j h e = ap (any f) (range_more d j h) ∙ any_of f (d ∷ range (d + 1) (j - 1)) d (Memᴰ.head refl) e

pub any_further : (f : ℕ → Bool) (d j : ℕ) → 0 < j → f d ≡ false → any f (range d j) ≡ any f (range (d + 1) (j - 1))
any_further f d j h e = ap (any f) (range_more d j h) ∙ any_skip f d (range (d + 1) (j - 1)) e

-- what a function makes of them, by place
pub mapped_at : (g : ℕ → ℕ) (a n i : ℕ) → i < n → get_or (map g (range a n)) i 0 ≡ g (a + i)
unfolding range
mapped_at g a zero i h = absurd (omega arith)
mapped_at g a (suc n) zero h = ap g (omega arith)
mapped_at g a (suc n) (suc i) h = mapped_at g (suc a) n i (omega arith) ∙ ap g (omega arith)

-- a test of the first n members of a list, by their places
pub all_taken : (f : ℕ → Bool) (l : List ℕ) (n : ℕ) → n ≤ length l → all (λ i. f (get_or l i 0)) (range 0 n) ≡ all f (take n l)
unfolding all range
all_taken f l n h = go (λ i. get_or l i 0) 0 n l h (λ k b. ap (λ (i : ℕ). get_or l i 0) (let z : 0 + k ≡ k = omega arith in z))
  where
    go : (g : ℕ → ℕ) (a n : ℕ) (l : List ℕ) → n ≤ length l → ((k : ℕ) → k < n → g (a + k) ≡ get_or l k 0)
        → all (λ i. f (g i)) (range a n) ≡ all f (take n l)
    go g a zero l h e = refl
    go g a (suc n) [] h e = absurd (omega arith)
    go g a (suc n) (x ∷ l) h e =
        ap₂ (λ (b c : Bool). elim b [ true ↦ c | false ↦ false ])
        (ap f (ap g (let z : a ≡ a + 0 = omega arith in z) ∙ e 0 (omega arith)))
        (go g (suc a) n l (omega arith) (λ k b. ap g (let z : suc a + k ≡ a + suc k = omega arith in z) ∙ e (suc k) (omega arith)))

-- the greedy walk
module _ (M : System) (fits : M.State → ℕ → Bool) where
  pub greedy_over : (k : ℕ) (σ : M.State) → k ≡ 0 → greedy M fits k σ ≡ []
  unfolding greedy
  greedy_over k σ e = rw e

  pub greedy_stuck : (k : ℕ) (σ : M.State) → find (fits σ) M.names ≡ none → greedy M fits k σ ≡ []
  unfolding greedy
  greedy_stuck zero σ e = refl
  greedy_stuck (suc k) σ e = rw (e, greedy)

  pub greedy_step : (k : ℕ) (σ : M.State) (t : ℕ) → 0 < k → find (fits σ) M.names ≡ some t → greedy M fits k σ ≡ t ∷ greedy M fits (k - 1) (M.step σ t)
  unfolding greedy
  greedy_step zero σ t h e = absurd (omega arith)
  greedy_step (suc k) σ t h e = rw (e, greedy) (ap (λ (j : ℕ). t ∷ greedy M fits j (M.step σ t)) (sym (sub-one (suc k))))
