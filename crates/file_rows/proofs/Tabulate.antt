-- Laws of `tabulate`: the list of a function's values at 0, 1, .., n - 1.
use Prim.Native.Nat.{ℕ, zero, suc, ◌<◌, ◌≤◌, suc-le-suc}
use native.Mathlib.Nat.{not-suc-le-zero, le_of_suc-le-suc, zero-lt-suc}
use mathlib.Core.Path.{◌≡◌, refl, sym, ap, ◌∙◌}
use mathlib.Core.Logic.{⊎_elim}
use mathlib.Core.List.{List, ◌∷◌, Memᴰ}
use native.Mathlib.Omega.{arith}
use lib.ListN.{length, get_or, take}
use lib.Seq.{ext_get_or}
use Rattle.spec_file.specs.Tabulate.{tabulate}

module _ {A : Type 0} where
  pub length_tabulate : (f : ℕ → A) (n : ℕ) → length (tabulate f n) ≡ n
  unfolding tabulate
  length_tabulate f zero = refl
  length_tabulate f (suc n) = ap suc (length_tabulate (λ i. f (suc i)) n)

  pub get_d_tabulate : (f : ℕ → A) (n i : ℕ) (d : A) → i < n → get_or (tabulate f n) i d ≡ f i
  unfolding tabulate
  get_d_tabulate f zero i d h = absurd (not-suc-le-zero h)
  get_d_tabulate f (suc n) zero d h = refl
  get_d_tabulate f (suc n) (suc i) d h = get_d_tabulate (λ j. f (suc j)) n i d (le_of_suc-le-suc h)

  -- functions that agree below n
  pub tabulate_same : (f g : ℕ → A) (n : ℕ) → ((i : ℕ) → i < n → f i ≡ g i) → tabulate f n ≡ tabulate g n
  unfolding tabulate
  tabulate_same f g zero h = refl
  tabulate_same f g (suc n) h =
      λ k. h zero (zero-lt-suc n) k ∷ tabulate_same (λ i. f (suc i)) (λ i. g (suc i)) n (λ i b. h (suc i) (suc-le-suc b)) k

  -- a list of n members, whose member at each place below n is the function's value there
  pub tabulate_members : (f : ℕ → A) (n : ℕ) (l : List A) (d : A) → length l ≡ n → ((i : ℕ) → i < n → f i ≡ get_or l i d) → tabulate f n ≡ l
  tabulate_members f n l d e h =
      ext_get_or d (tabulate f n) l (length_tabulate f n ∙ sym e)
      (λ i b. let k : i < n = rw (length_tabulate f n) at b in get_d_tabulate f n i d k ∙ h i k)

  -- a list is the table of its own members
  pub tabulate_get_d : (l : List A) (d : A) → tabulate (λ i. get_or l i d) (length l) ≡ l
  tabulate_get_d l d = tabulate_members (λ i. get_or l i d) (length l) l d refl (λ i b. refl)

  -- the first so many of a table
  pub take_tabulate : (f : ℕ → A) (n k : ℕ) → k ≤ n → take k (tabulate f n) ≡ tabulate f k
  unfolding tabulate
  take_tabulate f n zero h = refl
  take_tabulate f zero (suc k) h = absurd (omega arith)
  take_tabulate f (suc n) (suc k) h = ap (λ (l : List A). f 0 ∷ l) (take_tabulate (λ i. f (suc i)) n k (omega arith))

  -- the members of a tabulation are the values below n
  pub in_tabulate : (f : ℕ → A) (n k : ℕ) → k < n → Memᴰ (f k) (tabulate f n)
  unfolding tabulate
  in_tabulate f zero k h = absurd (omega arith)
  in_tabulate f (suc n) zero h = mathlib.Core.List.Memᴰ.head refl
  in_tabulate f (suc n) (suc k) h = mathlib.Core.List.Memᴰ.tail (in_tabulate (λ i. f (suc i)) n k (omega arith))

  pub of_tabulate : (f : ℕ → A) (n : ℕ) (x : A) → Memᴰ x (tabulate f n) → (k : ℕ) × (k < n) × (x ≡ f k)
  unfolding tabulate
  of_tabulate f zero x m = absurd (mathlib.Core.List.Memᴰ.not-nil m)
  of_tabulate f (suc n) x m =
      ⊎_elim (λ (e : x ≡ f 0). (0, omega arith, e))
      (λ (j : Memᴰ x (tabulate (λ i. f (suc i)) n)). let r = of_tabulate (λ i. f (suc i)) n x j in (suc r.0, omega (arith, r.1), r.2))
      (mathlib.Core.List.Memᴰ.cases_cons m)
