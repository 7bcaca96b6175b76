-- Digits tell what they are of: positive digits below their base are as many where the numbers are equal, and each equals the other's.
use Prim.Native.Nat.{ℕ, suc, ◌+◌, ◌*◌, ◌/◌, ◌^◌, ◌<◌, ◌≤◌}
use mathlib.Core.Path.{◌≡◌, refl, sym, ap, ap₂, ◌∙◌}
use mathlib.Core.List.{List, [], ◌∷◌, Memᴰ}
use native.Mathlib.Omega.{arith}
use native.Mathlib.Nat.{add-mul, add-mul-div_right, div-eq_of_lt, mul-le-mul_right, one-le-pow, pow-le-pow_right, pow-suc, pow-zero}
use lib.ListN.{length}
use Rattle.theory_sc.specs.ThreadWords.{digits}

module _ (base : ℕ) (some : 0 < base) where
  -- the last digit, and those before it
  digits_front : (n x : ℕ) → x < base → (n * base + x) / base ≡ n
  digits_front n x h =
      let e : n * base + x ≡ x + n * base = omega arith in
      ap (λ (m : ℕ). m / base) e ∙ add-mul-div_right x n some ∙ ap (λ (m : ℕ). m + n) (div-eq_of_lt h) ∙ (let z : 0 + n ≡ n = omega arith in z)

  digit_last : (a b x y : ℕ) → x < base → y < base → a * base + x ≡ b * base + y → (a ≡ b) × (x ≡ y)
  digit_last a b x y h k e =
      let same : a ≡ b = sym (digits_front a x h) ∙ ap (λ (m : ℕ). m / base) e ∙ digits_front b y k in
      (same, omega (arith, e, ap (λ (m : ℕ). m * base) same))

  module _ {A : Type 0} (digit : A → ℕ) where
    -- fewer digits make a smaller number
    pub digits_below : (xs : List A) → ((x : A) → Memᴰ x xs → digit x < base) → digits base digit xs < base ^ length xs
    unfolding digits
    digits_below [] h = one-le-pow 0 base some
    digits_below (x ∷ xs) h =
        let a = digits_below xs (λ y m. h y (Memᴰ.tail m)) in
        let b = mul-le-mul_right base a in
        omega (arith, h x (Memᴰ.head refl), b, add-mul (digits base digit xs) 1 base, pow-suc base (length xs))

    pub digits_fit : (xs : List A) (n : ℕ) → length xs ≤ n → ((x : A) → Memᴰ x xs → digit x < base) → digits base digit xs < base ^ n
    digits_fit xs n l h = let p = pow-le-pow_right {n = base} some {i = length xs} {j = n} l in omega (arith, p, digits_below xs h)

    -- more digits that are positive make a greater number
    pub digits_above : (x : A) (xs : List A) → ((y : A) → 0 < digit y) → base ^ length xs ≤ digits base digit (x ∷ xs)
    unfolding digits
    digits_above x [] h = omega (arith, pow-zero base, h x)
    digits_above x (y ∷ xs) h =
        let b = mul-le-mul_right base (digits_above y xs h) in
        omega (arith, b, pow-suc base (length xs))

    -- the number goes by the digits alone
    pub digits_same : (other : A → ℕ) (xs : List A) → ((x : A) → Memᴰ x xs → other x ≡ digit x) → digits base other xs ≡ digits base digit xs
    unfolding digits
    digits_same other [] h = refl
    digits_same other (x ∷ xs) h = ap₂ (λ (a b : ℕ). a * base + b) (digits_same other xs (λ y m. h y (Memᴰ.tail m))) (h x (Memᴰ.head refl))

-- two lists in which each stands so to the other's
abbrev pub Paired : {A B : Type 0} → (A → B → Type 0) → List A → List B → Type 0
Paired R [] [] = Unit {0}
Paired R [] (y ∷ ys) = ⊥
Paired R (x ∷ xs) [] = ⊥
Paired R (x ∷ xs) (y ∷ ys) = R x y × Paired R xs ys

module _ (base : ℕ) (some : 0 < base) {A B : Type 0} (f : A → ℕ) (g : B → ℕ) (R : A → B → Type 0) where
  -- EQUAL NUMBERS, equal digits
  pub digits_paired : (xs : List A) (ys : List B) → ((x : A) → Memᴰ x xs → (0 < f x) × (f x < base)) → ((y : B) → Memᴰ y ys → (0 < g y) × (g y < base)) →
      ((x : A) (y : B) → Memᴰ x xs → Memᴰ y ys → f x ≡ g y → R x y) → digits base f xs ≡ digits base g ys → Paired R xs ys
  unfolding digits
  digits_paired [] [] h k r e = tt
  digits_paired [] (y ∷ ys) h k r e = absurd (omega (arith, e, (k y (Memᴰ.head refl)).0))
  digits_paired (x ∷ xs) [] h k r e = absurd (omega (arith, e, (h x (Memᴰ.head refl)).0))
  digits_paired (x ∷ xs) (y ∷ ys) h k r e =
      let s = digit_last base some (digits base f xs) (digits base g ys) (f x) (g y) (h x (Memᴰ.head refl)).1 (k y (Memᴰ.head refl)).1 e in
      (r x y (Memᴰ.head refl) (Memᴰ.head refl) s.1, digits_paired xs ys (λ z m. h z (Memᴰ.tail m)) (λ z m. k z (Memᴰ.tail m)) (λ z w m l. r z w (Memᴰ.tail m) (Memᴰ.tail l)) s.0)

  -- pairs have equal digits
  pub paired_digits : (xs : List A) (ys : List B) → ((x : A) (y : B) → R x y → f x ≡ g y) → Paired R xs ys → digits base f xs ≡ digits base g ys
  unfolding digits
  paired_digits [] [] r p = refl
  paired_digits [] (y ∷ ys) r p = absurd p
  paired_digits (x ∷ xs) [] r p = absurd p
  paired_digits (x ∷ xs) (y ∷ ys) r p = ap₂ (λ (a b : ℕ). a * base + b) (paired_digits xs ys r p.1) (r x y p.0)
