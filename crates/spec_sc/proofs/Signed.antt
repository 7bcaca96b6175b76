-- Two's complement: what `signed` is at its three turning points, below the middle and above it, and that the order of the integers is the
-- order of the numbers 2^31 greater modulo 2^32, by which the code compares.
use Prim.Native.Nat.{ℕ, suc, ◌+◌, ◌-◌, ◌%◌, ◌^◌, ◌≤◌, ◌<◌}
use native.Mathlib.Omega.{arith}
use mathlib.Core.Path.{◌≡◌, refl}
use mathlib.Core.Bool.{Bool, true, false}
use mathlib.Core.List.{List, [], ◌∷◌, map}
use lib.Dec.{ltb, leb}
use lib.IntN.{ℤ, pos, negsuc}
use lib.Signed.{le_z}
use borrow.Author.Tests.{lt-ltb, le-ltb, ltb-true, ltb-false, leb-true, le-leb, lt-leb}
use Rattle.spec_file.proofs.Tests.{equal_tests}
use Rattle.spec_sc.specs.Signed.{signed, at_most}

-- 2147483647, minus 2147483648 and minus 1
points : map signed (0x7fffffff ∷ 0x80000000 ∷ 0xffffffff ∷ []) ≡ pos 2147483647 ∷ negsuc 2147483647 ∷ negsuc 0 ∷ []
unfolding signed
points = refl

-- each of them, and 0, against each: 80000000 is at most all, ffffffff at most all but 80000000, and nothing but itself is above 7fffffff
against : ℕ → List Bool
against a = map (at_most a) (0x80000000 ∷ 0xffffffff ∷ 0 ∷ 0x7fffffff ∷ [])

ordered : map against (0x80000000 ∷ 0xffffffff ∷ 0 ∷ 0x7fffffff ∷ [])
    ≡ (true ∷ true ∷ true ∷ true ∷ []) ∷ (false ∷ true ∷ true ∷ true ∷ []) ∷ (false ∷ false ∷ true ∷ true ∷ []) ∷ (false ∷ false ∷ false ∷ true ∷ []) ∷ []
unfolding against at_most signed
ordered = refl

-- below the middle the number itself, from the middle on minus what 2^32 has more
pub signed_low : (n : ℕ) → n < 2 ^ 31 → signed n ≡ pos n
unfolding signed
signed_low n h = rw (lt-ltb n (2 ^ 31) h)

pub signed_high : (n : ℕ) → 2 ^ 31 ≤ n → n < 2 ^ 32 → signed n ≡ negsuc (2 ^ 32 - suc n)
unfolding signed
signed_high n h k = rw (le-ltb n (2 ^ 31) h, lt-ltb n (2 ^ 32) k)

-- two tests of order are equal when each follows from the other
same_order : (a b c d : ℕ) → (a ≤ b → c ≤ d) → (c ≤ d → a ≤ b) → leb a b ≡ leb c d
same_order a b c d f g = equal_tests (leb a b) (leb c d) (λ e. le-leb c d (f (leb-true a b e))) (λ e. le-leb a b (g (leb-true c d e)))

-- for all pairs: the code's comparison is the order of the integers
pub at_most_offset : (a b : ℕ) → a < 2 ^ 32 → b < 2 ^ 32 → leb ((a + 2 ^ 31) % 2 ^ 32) ((b + 2 ^ 31) % 2 ^ 32) ≡ at_most a b
unfolding at_most
at_most_offset a b ha hb = go (ltb a (2 ^ 31)) (ltb b (2 ^ 31)) refl refl
  where
    low : (n : ℕ) → n < 2 ^ 31 → (n + 2 ^ 31) % 2 ^ 32 ≡ n + 2 ^ 31
    low n h = omega (arith, h)

    high : (n : ℕ) → 2 ^ 31 ≤ n → n < 2 ^ 32 → (n + 2 ^ 31) % 2 ^ 32 ≡ n - 2 ^ 31
    high n h k = omega (arith, h, k)

    go : (s t : Bool) → ltb a (2 ^ 31) ≡ s → ltb b (2 ^ 31) ≡ t → leb ((a + 2 ^ 31) % 2 ^ 32) ((b + 2 ^ 31) % 2 ^ 32) ≡ le_z (signed a) (signed b)
    go true true p q =
        let x = ltb-true a (2 ^ 31) p in
        let y = ltb-true b (2 ^ 31) q in
        rw (signed_low a x, signed_low b y, low a x, low b y) (same_order (a + 2 ^ 31) (b + 2 ^ 31) a b (λ h. omega arith) (λ h. omega arith))
    go true false p q =
        let x = ltb-true a (2 ^ 31) p in
        let y = ltb-false b (2 ^ 31) q in
        rw (signed_low a x, signed_high b y hb, low a x, high b y hb) (lt-leb (a + 2 ^ 31) (b - 2 ^ 31) (omega arith))
    go false true p q =
        let x = ltb-false a (2 ^ 31) p in
        let y = ltb-true b (2 ^ 31) q in
        rw (signed_high a x ha, signed_low b y, high a x ha, low b y) (le-leb (a - 2 ^ 31) (b + 2 ^ 31) (omega arith))
    go false false p q =
        let x = ltb-false a (2 ^ 31) p in
        let y = ltb-false b (2 ^ 31) q in
        rw (signed_high a x ha, signed_high b y hb, high a x ha, high b y hb)
        (same_order (a - 2 ^ 31) (b - 2 ^ 31) (2 ^ 32 - suc b) (2 ^ 32 - suc a) (λ h. omega arith) (λ h. omega arith))
