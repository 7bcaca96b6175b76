-- What is collected from the members of a list, and from the numbers 0, 1, .. in order.
use Prim.Native.Nat.{ℕ, zero, suc, ◌+◌}
use native.Mathlib.Numerals.{add-one}
use native.Mathlib.Omega.{arith}
use mathlib.Core.Path.{◌≡◌, refl, sym, ap, ◌∙◌}
use mathlib.Core.List.{List, [], ◌∷◌, ◌++◌, append_assoc, append-nil, flat_map}
use Rattle.spec_schedules.specs.Lists.{range}

pub collected_append : {A B : Type 0} (f : A → List B) (xs ys : List A) → flat_map f (xs ++ ys) ≡ flat_map f xs ++ flat_map f ys
unfolding flat_map
collected_append f [] ys = refl
collected_append {A} {B} f (x ∷ xs) ys = ap (λ (k : List B). f x ++ k) (collected_append f xs ys) ∙ sym (append_assoc (f x) (flat_map f xs) (flat_map f ys))

-- one more number
range_last : (a n k : ℕ) → k ≡ a + n → range a (suc n) ≡ range a n ++ (k ∷ [])
unfolding range
range_last a zero k e = let q : a ≡ k = omega arith in ap (λ (j : ℕ). j ∷ []) q
range_last a (suc n) k e = ap (λ (l : List ℕ). a ∷ l) (range_last (suc a) n k (omega arith))

pub range_next : (k : ℕ) → range 0 (k + 1) ≡ range 0 k ++ (k ∷ [])
range_next k = ap (range 0) (add-one k) ∙ range_last 0 k k (omega arith)

pub collected_next : {B : Type 0} (f : ℕ → List B) (k : ℕ) → flat_map f (range 0 (k + 1)) ≡ flat_map f (range 0 k) ++ f k
unfolding flat_map
collected_next {B} f k =
    ap (flat_map f) (range_next k)
    ∙ collected_append f (range 0 k) (k ∷ [])
    ∙ ap (λ (l : List B). flat_map f (range 0 k) ++ l) (append-nil (f k))
