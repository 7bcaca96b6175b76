-- Numbers of six bits, joined from the last on.
use Prim.Native.Nat.{ℕ, zero, suc, ◌+◌, ◌-◌, ◌*◌, ◌^◌, ◌<◌, ◌≤◌}
use mathlib.Core.Path.{◌≡◌, refl, sym, ap, ap₂, ◌∙◌}
use mathlib.Core.List.{◌∷◌, map}
use native.Mathlib.Omega.{arith}
use native.Mathlib.Nat.{pow-suc, pow-le-pow_right}
use Rattle.spec_schedules.specs.Lists.{range}
use Rattle.theory_sc.specs.ThreadWords.{digits}

-- the numbers that f gives from t on, up to six
abbrev pub six_from : (ℕ → ℕ) → ℕ → ℕ
six_from f t = digits 64 (λ n. n) (map f (range t (6 - t)))

pub six_none : (f : ℕ → ℕ) (t : ℕ) → t ≡ 6 → 0 ≡ six_from f t
unfolding digits range
six_none f t e = rw e

-- one more in front
pub six_more : (f : ℕ → ℕ) (t word s : ℕ) → 0 < t → t ≤ 6 → word ≡ six_from f t → s ≡ f (t - 1) → word * 64 + s ≡ six_from f (t - 1)
unfolding digits range
six_more f zero word s h i e q = absurd (omega arith)
six_more f (suc t) word s h i e q =
    let down : suc t - 1 ≡ t = omega arith in
    let left : 6 - t ≡ suc (6 - suc t) = omega arith in
    ap₂ (λ (y z : ℕ). y * 64 + z) e (q ∙ ap f down) ∙ sym (ap (six_from f) down ∙ ap (λ (k : ℕ). digits 64 (λ n. n) (map f (range t k))) left)

pub six_room : (t word s : ℕ) → 0 < t → t ≤ 6 → word < 64 ^ (6 - t) → s < 64 → word * 64 + s < 64 ^ (6 - (t - 1))
six_room t word s h i b c =
    let e : 6 - (t - 1) ≡ suc (6 - t) = omega arith in
    omega (arith, ap (λ (k : ℕ). 64 ^ k) e, pow-suc 64 (6 - t), b, c)

pub six_below : (t word : ℕ) → word < 64 ^ (6 - t) → word < 2 ^ 36
six_below t word b =
    let six : 6 - t ≤ 6 = omega arith in
    let l : 64 ^ (6 - t) ≤ 64 ^ 6 = pow-le-pow_right {n = 64} (omega arith) six in
    let c : 64 ^ 6 ≡ 2 ^ 36 = refl in
    omega (arith, l, c, b)

-- all six, and one in front
pub six_first : (f : ℕ → ℕ) (t word s : ℕ) → word ≡ six_from f t → t ≡ 0 → word * 64 + s ≡ digits 64 (λ n. n) (s ∷ map f (range 0 6))
unfolding digits
six_first f t word s e z = ap (λ (k : ℕ). k * 64 + s) (e ∙ ap (six_from f) z)

pub six_all : (f : ℕ → ℕ) (t word : ℕ) → word ≡ six_from f t → t ≡ 0 → word ≡ digits 64 (λ n. n) (map f (range 0 6))
six_all f t word e z = e ∙ ap (six_from f) z
