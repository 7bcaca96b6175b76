-- One digit: `value` and `digit_of` are each other's inverse between the lower-case digits and the numbers below 16, and a capital is worth what its small letter is.
use Prim.Native.Nat.{ℕ, ◌+◌, ◌-◌, ◌≤◌, ◌<◌}
use native.Mathlib.Omega.{arith}
use mathlib.Core.Path.{◌≡◌, refl, sym, ◌∙◌, ap}
use mathlib.Core.Bool.{Bool, true, false, cond, ◌&&◌, ◌||◌, false≢true}
use lib.Dec.{eqb, leb, ltb}
use borrow.Author.Tests.{leb-true, ltb-true, ltb-false, lt-ltb, le-ltb, le-leb, lt-leb, ne_eqb}
use Rattle.spec_file.specs.Digit.{decimal, letter, capital, lower, digit, value, digit_of}

-- two tests of which both hold
pub both : (a b : Bool) → (a && b) ≡ true → (a ≡ true) × (b ≡ true)
both true b e = (refl, e)
both false b e = absurd (false≢true e)

-- the byte lies between two others
between : (m n b : ℕ) → (leb m b && leb b n) ≡ true → (m ≤ b) × (b ≤ n)
between m n b e =
    let h = both (leb m b) (leb b n) e in
    (leb-true m b h.0, leb-true b n h.1)

-- ---- capitals lowered
pub lower_capital : (b : ℕ) → 65 ≤ b → b ≤ 70 → lower b ≡ b + 32
unfolding lower
lower_capital b h k = rw (le-leb 65 b h, le-leb b 70 k)

pub lower_below : (b : ℕ) → b < 65 → lower b ≡ b
unfolding lower
lower_below b h = rw (lt-leb 65 b h)

pub lower_above : (b : ℕ) → 70 < b → lower b ≡ b
unfolding lower
lower_above b h = rw (le-leb 65 b (omega arith), lt-leb b 70 h)

-- a byte is a capital or is left
lower_cases : (P : ℕ → Type 0) (b : ℕ) → (65 ≤ b → b ≤ 70 → P (b + 32)) → P b → P (lower b)
unfolding lower
lower_cases P b h k = go (capital b) refl
  where
    go : (t : Bool) → capital b ≡ t → P (cond (capital b) (b + 32) b)
    go true e = let r = between 65 70 b e in rw e (h r.0 r.1)
    go false e = rw e k

pub lower_lower : (b : ℕ) → lower (lower b) ≡ lower b
unfolding lower
lower_lower b = go (capital b) refl
  where
    go : (t : Bool) → capital b ≡ t → lower (cond (capital b) (b + 32) b) ≡ cond (capital b) (b + 32) b
    go true e = let r = between 65 70 b e in rw e (lower_above (b + 32) (omega arith))
    go false e = rw e (rw e)

-- no other byte becomes one that stands below the capitals, as 0a and `#` do
pub lower_other : (b n : ℕ) → n < 65 → eqb (lower b) n ≡ eqb b n
lower_other b n h =
    lower_cases (λ d. eqb d n ≡ eqb b n) b
    (λ l r. ne_eqb (b + 32) n (λ e. omega arith) ∙ sym (ne_eqb b n (λ e. omega arith)))
    refl

-- ---- digits by their small form
pub digit_by : (b d : ℕ) → d ≡ lower b → digit b ≡ (decimal d || letter d)
unfolding digit
digit_by b d e = ap (λ (x : ℕ). decimal x || letter x) (sym e)

pub value_by : (b d : ℕ) → d ≡ lower b → value b ≡ cond (decimal d) (d - 48) (cond (letter d) (d - 87) 0)
unfolding value
value_by b d e = ap (λ (x : ℕ). cond (decimal x) (x - 48) (cond (letter x) (x - 87) 0)) (sym e)

pub digit_decimal : (b : ℕ) → 48 ≤ lower b → lower b ≤ 57 → (digit b ≡ true) × (value b ≡ lower b - 48)
unfolding digit value
digit_decimal b h k = (rw (le-leb 48 (lower b) h, le-leb (lower b) 57 k), rw (le-leb 48 (lower b) h, le-leb (lower b) 57 k))

pub digit_letter : (b : ℕ) → 97 ≤ lower b → lower b ≤ 102 → (digit b ≡ true) × (value b ≡ lower b - 87)
unfolding digit value
digit_letter b h k = (
  rw (lt-leb (lower b) 57 (omega arith), le-leb 48 (lower b) (omega arith), le-leb 97 (lower b) h, le-leb (lower b) 102 k),
  rw (lt-leb (lower b) 57 (omega arith), le-leb 48 (lower b) (omega arith), le-leb 97 (lower b) h, le-leb (lower b) 102 k),
)

pub digit_lower : (b : ℕ) → digit (lower b) ≡ digit b
unfolding digit
digit_lower b = rw (lower_lower b)

pub value_lower : (b : ℕ) → value (lower b) ≡ value b
unfolding value
value_lower b = rw (lower_lower b)

-- ---- a digit's value
pub value_below : (b : ℕ) → value b < 16
unfolding value
value_below b = go (decimal (lower b)) refl (letter (lower b)) refl
  where
    go : (d : Bool) → decimal (lower b) ≡ d → (e : Bool) → letter (lower b) ≡ e
        → cond (decimal (lower b)) (lower b - 48) (cond (letter (lower b)) (lower b - 87) 0) < 16
    go true p e q = let h = between 48 57 (lower b) p in rw p (omega arith)
    go false p true q = let h = between 97 102 (lower b) q in rw (p, q) (omega arith)
    go false p false q = rw (p, q) (omega arith)

-- ---- to and fro
pub digit_digit_of : (n : ℕ) → n < 16 → (digit (digit_of n) ≡ true) × (value (digit_of n) ≡ n)
unfolding digit_of
digit_digit_of n h = go (ltb n 10) refl
  where
    go : (t : Bool) → ltb n 10 ≡ t → (digit (cond (ltb n 10) (48 + n) (87 + n)) ≡ true) × (value (cond (ltb n 10) (48 + n) (87 + n)) ≡ n)
    go true e =
        let k : n < 10 = ltb-true n 10 e in
        let l = lower_below (48 + n) (omega arith) in
        let d = digit_decimal (48 + n) (omega arith) (omega arith) in
        rw e (d.0, d.1 ∙ omega arith)
    go false e =
        let k : 10 ≤ n = ltb-false n 10 e in
        let l = lower_above (87 + n) (omega arith) in
        let d = digit_letter (87 + n) (omega arith) (omega arith) in
        rw e (d.0, d.1 ∙ omega arith)

-- a digit read and written again is lower case
pub digit_of_value : (b : ℕ) → digit b ≡ true → digit_of (value b) ≡ lower b
unfolding digit digit_of
digit_of_value b h = go (decimal (lower b)) refl
  where
    go : (t : Bool) → decimal (lower b) ≡ t → cond (ltb (value b) 10) (48 + value b) (87 + value b) ≡ lower b
    go true e =
        let r = between 48 57 (lower b) e in
        let v : value b ≡ lower b - 48 = (digit_decimal b r.0 r.1).1 in
        rw (lt-ltb (value b) 10 (omega arith)) (omega arith)
    go false e =
        let l : letter (lower b) ≡ true = ap (λ (t : Bool). t || letter (lower b)) (sym e) ∙ h in
        let r = between 97 102 (lower b) l in
        let v : value b ≡ lower b - 87 = (digit_letter b r.0 r.1).1 in
        rw (le-ltb (value b) 10 (omega arith)) (omega arith)

-- no digit is 0a or `#`
pub digit_of_above : (n : ℕ) → 48 ≤ digit_of n
unfolding digit_of
digit_of_above n = go (ltb n 10) refl
  where
    go : (t : Bool) → ltb n 10 ≡ t → 48 ≤ cond (ltb n 10) (48 + n) (87 + n)
    go true e = rw e (omega arith)
    go false e = rw e (omega arith)
