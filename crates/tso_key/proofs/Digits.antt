-- Digits from the last on: five bits for each of six, and six sets of six bits.
use Prim.Native.Nat.{ℕ, zero, suc, ◌+◌, ◌-◌, ◌*◌, ◌^◌, ◌<◌, ◌≤◌}
use mathlib.Core.Path.{◌≡◌, refl, sym, ap, ap₂, ◌∙◌}
use mathlib.Core.List.{List, [], ◌∷◌, ◌++◌, map, append-nil}
use native.Mathlib.Omega.{arith}
use native.Mathlib.Nat.{pow-suc, pow-le-pow_right}
use Rattle.spec_schedules.specs.Lists.{range}
use Rattle.theory_sc.specs.ThreadWords.{digits}
use Rattle.theory_tso_key.specs.Words.{number}

-- those of f from t on, up to six, in front of l
abbrev pub fives : (ℕ → ℕ) → ℕ → List ℕ → ℕ
fives f t l = number 32 (map f (range t (6 - t)) ++ l)

pub fives_none : (f : ℕ → ℕ) (t : ℕ) (l : List ℕ) → t ≡ 6 → number 32 l ≡ fives f t l
unfolding range
fives_none f t l e = rw e

pub fives_more : (f : ℕ → ℕ) (l : List ℕ) (t word s : ℕ) → 0 < t → t ≤ 6 → word ≡ fives f t l → s ≡ f (t - 1) → word * 32 + s ≡ fives f (t - 1) l
unfolding digits range
fives_more f l zero word s h i e q = absurd (omega arith)
fives_more f l (suc t) word s h i e q =
    let down : suc t - 1 ≡ t = omega arith in
    let left : 6 - t ≡ suc (6 - suc t) = omega arith in
    ap₂ (λ (y z : ℕ). y * 32 + z) e (q ∙ ap f down) ∙ sym (ap (λ (k : ℕ). fives f k l) down ∙ ap (λ (k : ℕ). number 32 (map f (range t k) ++ l)) left)

pub fives_room : (n t word s : ℕ) → 0 < t → t ≤ n → word < 32 ^ (n - t) → s < 32 → word * 32 + s < 32 ^ (n - (t - 1))
fives_room n t word s h i b c =
    let e : n - (t - 1) ≡ suc (n - t) = omega arith in
    omega (arith, ap (λ (k : ℕ). 32 ^ k) e, pow-suc 32 (n - t), b, c)

pub fives_below : (t word : ℕ) → word < 32 ^ (12 - t) → word < 2 ^ 60
fives_below t word b =
    let l : 32 ^ (12 - t) ≤ 32 ^ 12 = pow-le-pow_right {n = 32} (omega arith) {i = 12 - t} {j = 12} (omega arith) in
    let c : 32 ^ 12 ≡ 2 ^ 60 = refl in
    omega (arith, l, c, b)

pub fives_six : (t word : ℕ) → word < 32 ^ (6 - t) → word < 2 ^ 30
fives_six t word b =
    let l : 32 ^ (6 - t) ≤ 32 ^ 6 = pow-le-pow_right {n = 32} (omega arith) {i = 6 - t} {j = 6} (omega arith) in
    let c : 32 ^ 6 ≡ 2 ^ 30 = refl in
    omega (arith, l, c, b)

-- six sets in one word
pub six_sets : (a b c d e f a' b' c' d' e' f' : ℕ) → a ≡ a' → b ≡ b' → c ≡ c' → d ≡ d' → e ≡ e' → f ≡ f' →
    ((((f * 64 + e) * 64 + d) * 64 + c) * 64 + b) * 64 + a ≡ number 64 (a' ∷ b' ∷ c' ∷ d' ∷ e' ∷ f' ∷ [])
unfolding digits
six_sets a b c d e f a' b' c' d' e' f' i j k l m n = omega (arith, i, j, k, l, m, n)

pub fives_start : (f : ℕ → ℕ) → 0 ≡ fives f 6 []
unfolding digits range
fives_start f = refl

pub fives_all : (f : ℕ → ℕ) (t : ℕ) (l : List ℕ) (word : ℕ) → (0 < t → ⊥) → word ≡ fives f t l → word ≡ number 32 (map f (range 0 6) ++ l)
fives_all f t l word h e = let z : t ≡ 0 = omega (arith, h) in e ∙ ap (λ (k : ℕ). fives f k l) z

pub fives_alone : (f : ℕ → ℕ) (t : ℕ) (word : ℕ) → (0 < t → ⊥) → word ≡ fives f t [] → word ≡ number 32 (map f (range 0 6))
fives_alone f t word h e = fives_all f t [] word h e ∙ ap (number 32) (append-nil (map f (range 0 6)))
