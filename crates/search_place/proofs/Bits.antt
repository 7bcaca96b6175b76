-- Bits named by shifts, six of them as one number, and a stamp's cases.
use Prim.Native.Nat.{ℕ, zero, suc, ◌+◌, ◌*◌, ◌/◌, ◌%◌, ◌^◌, ◌<◌, ◌≤◌}
use mathlib.Core.Path.{◌≡◌, refl, sym, ap}
use mathlib.Core.Bool.{Bool, true, false, cond}
use mathlib.Core.List.{List}
use native.Mathlib.Omega.{arith}
use native.Mathlib.Nat.{div-eq_of_lt, pow-le-pow_right}
use lib.Dec.{eqb}
use lib.ListN.{get_or, set}
use lib.Seq.{set-get_or}
use Rattle.spec_schedules.specs.Sets.{has}
use Rattle.theory_sc.specs.Sets.{addend, set_of}
use Rattle.theory_sc.specs.ReadWords.{stamps_behind}
use Rattle.theory_sc.proofs.Sets.{set_more, set_none}

-- ---- a bit
pub bit_at : (s k : ℕ) → eqb (s / 2 ^ k % 2) 1 ≡ has s k
unfolding has
bit_at s k = refl

-- a byte has eight
pub bit_above : (s k : ℕ) → s < 256 → 8 ≤ k → false ≡ has s k
unfolding has
bit_above s k h i =
    let p : 2 ^ 8 ≤ 2 ^ k = pow-le-pow_right {n = 2} (omega arith) i in
    let q : s < 2 ^ k = omega (arith, p, h) in
    sym (ap (λ (n : ℕ). eqb (n % 2) 1) (div-eq_of_lt q))

-- ---- a thread's bit
pub power_six : (t : ℕ) → t < 6 → (1 * 2 ^ t % 2 ^ 8 ≡ 2 ^ t) × (1 * 2 ^ t % 2 ^ 8 ≤ 32)
power_six zero h = (refl, omega arith)
power_six (suc zero) h = (refl, omega arith)
power_six (suc (suc zero)) h = (refl, omega arith)
power_six (suc (suc (suc zero))) h = (refl, omega arith)
power_six (suc (suc (suc (suc zero)))) h = (refl, omega arith)
power_six (suc (suc (suc (suc (suc zero))))) h = (refl, omega arith)
power_six (suc (suc (suc (suc (suc (suc t)))))) h = absurd (omega arith)

-- ---- six of them
pub six_bits : (f : ℕ → Bool) (b0 b1 b2 b3 b4 b5 : Bool) (a0 a1 a2 a3 a4 a5 : ℕ)
    → a0 ≡ addend b0 1 → a1 ≡ addend b1 2 → a2 ≡ addend b2 4 → a3 ≡ addend b3 8 → a4 ≡ addend b4 16 → a5 ≡ addend b5 32
    → b0 ≡ f 0 → b1 ≡ f 1 → b2 ≡ f 2 → b3 ≡ f 3 → b4 ≡ f 4 → b5 ≡ f 5 → a0 + a1 + a2 + a3 + a4 + a5 ≡ set_of f 6
six_bits f b0 b1 b2 b3 b4 b5 a0 a1 a2 a3 a4 a5 p0 p1 p2 p3 p4 p5 e0 e1 e2 e3 e4 e5 =
    let s0 : set_of f 0 ≡ 0 = set_none f 0 (λ t h. absurd (omega arith)) in
    let s1 : set_of f 1 ≡ set_of f 0 + addend b0 1 = set_more f 0 b0 (sym e0) in
    let s2 : set_of f 2 ≡ set_of f 1 + addend b1 2 = set_more f 1 b1 (sym e1) in
    let s3 : set_of f 3 ≡ set_of f 2 + addend b2 4 = set_more f 2 b2 (sym e2) in
    let s4 : set_of f 4 ≡ set_of f 3 + addend b3 8 = set_more f 3 b3 (sym e3) in
    let s5 : set_of f 5 ≡ set_of f 4 + addend b4 16 = set_more f 4 b4 (sym e4) in
    let s6 : set_of f 6 ≡ set_of f 5 + addend b5 32 = set_more f 5 b5 (sym e5) in
    omega arith

-- ---- a stamp, stored where it was
pub stamp_stored : (s : List ℕ) (l n : ℕ) (w : Bool) → set s l (cond w n (get_or s l 0)) ≡ stamps_behind s l n w
unfolding stamps_behind
stamp_stored s l n true = refl
stamp_stored s l n false = set-get_or s l 0

-- a number or nothing, as the code chooses
pub chosen : (b : Bool) (k r : ℕ) → r ≡ cond b k 0 → (r ≡ addend b k) × (r ≤ k)
unfolding addend
chosen true k r e = (e, omega (arith, e))
chosen false k r e = (e, omega (arith, e))
