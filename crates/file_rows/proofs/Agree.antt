-- Two stretches of the code that agree byte for byte.
use Prim.Native.Nat.{ℕ, zero, suc, ◌+◌, ◌<◌, ◌≤◌}
use native.Mathlib.Numerals.{add-one}
use native.Mathlib.Omega.{arith}
use native.Mathlib.Nat.{add-zero}
use mathlib.Core.Path.{◌≡◌, refl, ◌∙◌, ap, sym}
use mathlib.Core.Bool.{Bool, true, ◌&&◌}
use mathlib.Core.List.{List}
use lib.Dec.{eqb}
use lib.ListN.{get_or, length, take, drop}
use lib.Seq.{drop-cons}
use lib.Pointwise.{pointwise}
use borrow.Author.Tests.{eq-eqb, eqb-true}
use Rattle.file_rows.specs.Bytes.{agree}
use Rattle.spec_file.proofs.DigitValues.{both}

-- the two stretches as lists, compared
pub agree_parts : (code : List ℕ) (a b n : ℕ) → a + n ≤ length code → b + n ≤ length code
    → pointwise eqb (take n (drop a code)) (take n (drop b code)) ≡ agree code a b n
unfolding agree
agree_parts code a b zero h k = refl
agree_parts code a b (suc n) h k =
    rw (drop-cons code a 0 (omega arith), drop-cons code b 0 (omega arith), ← add-one a, ← add-one b)
    (ap (λ (r : Bool). eqb (get_or code a 0) (get_or code b 0) && r) (agree_parts code (a + 1) (b + 1) n (omega arith) (omega arith)))

-- what `agree` means
pub agree_true : (code : List ℕ) (a b n : ℕ) → agree code a b n ≡ true → (k : ℕ) → k < n → get_or code (a + k) 0 ≡ get_or code (b + k) 0
unfolding agree
agree_true code a b zero e k h = absurd (omega arith)
agree_true code a b (suc n) e zero h =
    let p = both (eqb (get_or code a 0) (get_or code b 0)) _ e in
    rw (add-zero a, add-zero b) (eqb-true (get_or code a 0) (get_or code b 0) p.0)
agree_true code a b (suc n) e (suc k) h =
    let p = both (eqb (get_or code a 0) (get_or code b 0)) (agree code (a + 1) (b + 1) n) e in
    let x : a + 1 + k ≡ a + suc k = omega arith in
    let y : b + 1 + k ≡ b + suc k = omega arith in
    ap (λ (i : ℕ). get_or code i 0) (sym x) ∙ agree_true code (a + 1) (b + 1) n p.1 k (omega arith) ∙ ap (λ (i : ℕ). get_or code i 0) y

pub agree_all : (code : List ℕ) (a b n : ℕ) → ((k : ℕ) → k < n → get_or code (a + k) 0 ≡ get_or code (b + k) 0) → agree code a b n ≡ true
unfolding agree
agree_all code a b zero h = refl
agree_all code a b (suc n) h =
    let z : get_or code a 0 ≡ get_or code b 0 = rw (add-zero a, add-zero b) at (h 0 (omega arith)) in
    let s : agree code (a + 1) (b + 1) n ≡ true = agree_all code (a + 1) (b + 1) n (λ k l.
    let x : a + 1 + k ≡ a + suc k = omega arith in
    let y : b + 1 + k ≡ b + suc k = omega arith in
    ap (λ (i : ℕ). get_or code i 0) x ∙ h (suc k) (omega arith) ∙ ap (λ (i : ℕ). get_or code i 0) (sym y)) in
    rw (eq-eqb (get_or code a 0) (get_or code b 0) z, s)
