-- What is in a set given by its bits.
use Prim.Native.Nat.{ℕ, zero, suc, ◌+◌, ◌-◌, ◌*◌, ◌/◌, ◌%◌, ◌^◌, ◌<◌, ◌≤◌}
use mathlib.Core.Path.{◌≡◌, refl, sym, ap, ap₂, subst, ◌∙◌}
use mathlib.Core.Logic.{◌≢◌}
use mathlib.Core.Bool.{Bool, true, false, ◌||◌}
use native.Mathlib.Omega.{arith}
use native.Mathlib.Decide.{dec_lt, ℕ_discrete}
use native.Mathlib.Nat.{add-zero, add-suc, mul_assoc, mul-one, pow-suc, one-le-pow, pow-le-pow_right, div-eq_of_lt, add-mul-div_left, add-mul-mod_self_left, two-pow-succ}
use lib.Dec.{eqb}
use borrow.Author.Tests.{eqb-true}
use Rattle.spec_schedules.specs.Lists.{range, all}
use Rattle.spec_schedules.proofs.Lists.{in_range_lem, all_at}
use Rattle.spec_schedules.specs.Sets.{has}
use Rattle.theory_sc.specs.Sets.{addend, set_of, joined}

-- ---- powers of two
power_positive : (n : ℕ) → 0 < 2 ^ n
power_positive n = one-le-pow n 2 (omega arith)

power_split : (t d : ℕ) → 2 ^ suc (t + d) ≡ 2 ^ t * (2 * 2 ^ d)
power_split t zero = ap (λ (k : ℕ). 2 ^ suc k) (add-zero t) ∙ pow-suc 2 t
power_split t (suc d) =
    ap (λ (k : ℕ). 2 ^ suc k) (add-suc t d) ∙ pow-suc 2 (suc (t + d)) ∙ ap (λ (k : ℕ). k * 2) (power_split t d) ∙ mul_assoc (2 ^ t) (2 * 2 ^ d) 2
    ∙ ap (λ (k : ℕ). 2 ^ t * k) (mul_assoc 2 (2 ^ d) 2 ∙ ap (λ (k : ℕ). 2 * k) (sym (pow-suc 2 d)))

-- ---- one bit
-- a greater power changes no bit below
has_old : (a n t : ℕ) → t < n → has (a + 2 ^ n) t ≡ has a t
unfolding has
has_old a n t h =
    let d : ℕ = n - suc t in
    let e : n ≡ suc (t + d) = omega arith in
    ap (λ (k : ℕ). eqb k 1)
    (ap (λ (k : ℕ). (a + k) / 2 ^ t % 2) (ap (λ (k : ℕ). 2 ^ k) e ∙ power_split t d) ∙ ap (λ (k : ℕ). k % 2) (add-mul-div_left a (2 * 2 ^ d) (power_positive t))
    ∙ add-mul-mod_self_left (a / 2 ^ t) 2 (2 ^ d))

has_top : (a n : ℕ) → a < 2 ^ n → has (a + 2 ^ n) n ≡ true
unfolding has
has_top a n h =
    ap (λ (k : ℕ). eqb (k % 2) 1)
    (ap (λ (k : ℕ). (a + k) / 2 ^ n) (sym (mul-one (2 ^ n))) ∙ add-mul-div_left a 1 (power_positive n) ∙ ap (λ (k : ℕ). k + 1) (div-eq_of_lt h))

has_not : (a n : ℕ) → a < 2 ^ n → has a n ≡ false
unfolding has
has_not a n h = ap (λ (k : ℕ). eqb (k % 2) 1) (div-eq_of_lt h)

-- the empty set
pub has_none : (t : ℕ) → has 0 t ≡ false
has_none t = has_not 0 t (power_positive t)

-- the set of one
one_alone : (t : ℕ) → 2 ^ t ≡ 0 + 2 ^ t
one_alone t = omega arith

pub has_own : (t : ℕ) → has (2 ^ t) t ≡ true
has_own t = ap (λ (k : ℕ). has k t) (one_alone t) ∙ has_top 0 t (power_positive t)

pub has_own_only : (t u : ℕ) → u ≢ t → has (2 ^ t) u ≡ false
has_own_only t u ne = go (dec_lt u t)
  where
    go : Dec (u < t) → has (2 ^ t) u ≡ false
    go (yes h) = ap (λ (k : ℕ). has k u) (one_alone t) ∙ has_old 0 t u h ∙ has_none u
    go (no h) = let k = pow-le-pow_right {n = 2} (omega arith) (let l : suc t ≤ u = omega (arith, h, ne) in l) in has_not (2 ^ t) u (omega (arith, k, two-pow-succ t, power_positive t))

-- ---- the set of those that pass a test
set_nil : (f : ℕ → Bool) → set_of f 0 ≡ 0
unfolding set_of
set_nil f = refl

set_suc : (f : ℕ → Bool) (n : ℕ) → set_of f (suc n) ≡ set_of f n + addend (f n) (2 ^ n)
unfolding set_of
set_suc f n = refl

set_one : (f : ℕ → Bool) (n : ℕ) (b : Bool) → f n ≡ b → set_of f (suc n) ≡ set_of f n + addend b (2 ^ n)
set_one f n b e = set_suc f n ∙ ap (λ (x : Bool). set_of f n + addend x (2 ^ n)) e

-- one more number, as a loop takes it
pub set_more : (f : ℕ → Bool) (n : ℕ) (b : Bool) → f n ≡ b → set_of f (n + 1) ≡ set_of f n + addend b (2 ^ n)
set_more f n b e = ap (set_of f) (omega arith) ∙ set_one f n b e

addend_at_most : (b : Bool) (k : ℕ) → addend b k ≤ k
unfolding addend
addend_at_most true k = omega arith
addend_at_most false k = omega arith

pub set_below : (f : ℕ → Bool) (n : ℕ) → set_of f n < 2 ^ n
set_below f zero = omega (arith, set_nil f, power_positive 0)
set_below f (suc n) = omega (arith, set_suc f n, set_below f n, addend_at_most (f n) (2 ^ n), two-pow-succ n)

pub set_has : (f : ℕ → Bool) (n t : ℕ) → t < n → has (set_of f n) t ≡ f t
unfolding addend
set_has f zero t h = absurd (omega arith)
set_has f (suc n) t h = ap (λ (k : ℕ). has k t) (set_suc f n) ∙ go (f n) refl (ℕ_discrete t n) (λ k. set_has f n t k)
  where
    go : (b : Bool) → f n ≡ b → Dec (t ≡ n) → (t < n → has (set_of f n) t ≡ f t) → has (set_of f n + addend (f n) (2 ^ n)) t ≡ f t
    go true e (yes q) ih = ap₂ (λ (b : Bool) (k : ℕ). has (set_of f n + addend b (2 ^ n)) k) e q ∙ has_top (set_of f n) n (set_below f n) ∙ sym (ap f q ∙ e)
    go true e (no q) ih = ap (λ (b : Bool). has (set_of f n + addend b (2 ^ n)) t) e ∙ has_old (set_of f n) n t (omega arith) ∙ ih (omega arith)
    go false e (yes q) ih = ap₂ (λ (b : Bool) (k : ℕ). has (set_of f n + addend b (2 ^ n)) k) e q ∙ ap (λ (k : ℕ). has k n) (add-zero (set_of f n)) ∙ has_not (set_of f n) n (set_below f n) ∙ sym (ap f q ∙ e)
    go false e (no q) ih = ap (λ (b : Bool). has (set_of f n + addend b (2 ^ n)) t) e ∙ ap (λ (k : ℕ). has k t) (add-zero (set_of f n)) ∙ ih (omega arith)

pub set_above : (f : ℕ → Bool) (n t : ℕ) → n ≤ t → has (set_of f n) t ≡ false
set_above f n t h = let p = pow-le-pow_right {n = 2} (omega arith) h in has_not (set_of f n) t (omega (arith, set_below f n, p))

-- the number goes by the members alone
pub set_same : (f g : ℕ → Bool) (n : ℕ) → ((t : ℕ) → t < n → f t ≡ g t) → set_of f n ≡ set_of g n
set_same f g zero h = set_nil f ∙ sym (set_nil g)
set_same f g (suc n) h =
    set_suc f n ∙ ap₂ (λ (k : ℕ) (b : Bool). k + addend b (2 ^ n)) (set_same f g n (λ t i. h t (omega arith))) (h n (omega arith)) ∙ sym (set_suc g n)

-- a part of a set is no greater a number
addend_less : (a b : Bool) (k : ℕ) → (a ≡ true → b ≡ true) → addend a k ≤ addend b k
unfolding addend
addend_less true b k h = subst (λ (x : Bool). k ≤ addend x k) (sym (h refl)) (omega arith)
addend_less false b k h = omega arith

pub set_less : (f g : ℕ → Bool) (n : ℕ) → ((t : ℕ) → t < n → f t ≡ true → g t ≡ true) → set_of f n ≤ set_of g n
set_less f g zero h = omega (arith, set_nil f)
set_less f g (suc n) h = omega (arith, set_suc f n, set_suc g n, set_less f g n (λ t i. h t (omega arith)), addend_less (f n) (g n) (2 ^ n) (h n (omega arith)))

-- where none passes the set is empty
pub set_none : (f : ℕ → Bool) (n : ℕ) → ((t : ℕ) → t < n → f t ≡ false) → set_of f n ≡ 0
unfolding addend
set_none f zero h = set_nil f
set_none f (suc n) h = set_suc f n ∙ ap₂ (λ (k : ℕ) (b : Bool). k + addend b (2 ^ n)) (set_none f n (λ t i. h t (omega arith))) (h n (omega arith))

-- ---- as loops make them: one number more
pub set_grown : (f : ℕ → Bool) (n s r k : ℕ) (b : Bool) → s ≡ set_of f n → b ≡ f n → k ≡ 2 ^ n → r ≡ addend b k → s + r ≡ set_of f (n + 1)
set_grown f n s r k b es eb ek er = ap₂ (λ (i j : ℕ). i + j) es (er ∙ ap (addend b) ek) ∙ sym (set_more f n b (sym eb))

pub bound_grown : (n s r k : ℕ) → s < 2 ^ n → r ≤ k → k ≡ 2 ^ n → s + r < 2 ^ (n + 1)
bound_grown n s r k h i e = let q : 2 ^ (n + 1) ≡ 2 ^ suc n = ap (λ (j : ℕ). 2 ^ j) (omega arith) in omega (arith, q, two-pow-succ n)

-- numbers from n on that pass no test change no set
pub set_cut : (f : ℕ → Bool) (n k : ℕ) → n ≤ k → ((u : ℕ) → n ≤ u → u < k → f u ≡ false) → set_of f n ≡ set_of f k
unfolding addend
set_cut f n zero h e = ap (set_of f) (omega (arith, h))
set_cut f n (suc k) h e = go (ℕ_discrete n (suc k)) (λ i. set_cut f n k i (λ u a b. e u a (omega (arith, b))))
  where
    go : Dec (n ≡ suc k) → (n ≤ k → set_of f n ≡ set_of f k) → set_of f n ≡ set_of f (suc k)
    go (yes q) ih = ap (set_of f) q
    go (no q) ih =
        let i : n ≤ k = omega (arith, h, q) in
        let a = set_one f k false (e k i (omega arith)) in
        omega (arith, a, ih i)

-- one member fewer
pub set_without : (f g : ℕ → Bool) (t : ℕ) → f t ≡ true → g t ≡ false → ((u : ℕ) → u ≢ t → f u ≡ g u) → (n : ℕ) → t < n → set_of f n ≡ set_of g n + 2 ^ t
unfolding addend
set_without f g t ft gt same zero h = absurd (omega arith)
set_without f g t ft gt same (suc n) h = go (ℕ_discrete t n) (λ i. set_without f g t ft gt same n i)
  where
    go : Dec (t ≡ n) → (t < n → set_of f n ≡ set_of g n + 2 ^ t) → set_of f (suc n) ≡ set_of g (suc n) + 2 ^ t
    go (yes q) ih =
        let a = set_one f n true (ap f (sym q) ∙ ft) in
        let b = set_one g n false (ap g (sym q) ∙ gt) in
        let c = set_same f g n (λ u i. same u (λ e. omega (arith, e))) in
        let d : 2 ^ t ≡ 2 ^ n = ap (λ (j : ℕ). 2 ^ j) q in
        omega (arith, a, b, c, d)
    go (no q) ih =
        let a = set_one f n (g n) (same n (λ e. q (sym e))) in
        let b = set_one g n (g n) refl in
        omega (arith, a, b, ih (omega arith))

-- a member counts
pub set_at_least : (f : ℕ → Bool) (n t : ℕ) → t < n → f t ≡ true → 2 ^ t ≤ set_of f n
unfolding addend
set_at_least f zero t h e = absurd (omega arith)
set_at_least f (suc n) t h e = go (ℕ_discrete t n) (λ i. set_at_least f n t i e)
  where
    go : Dec (t ≡ n) → (t < n → 2 ^ t ≤ set_of f n) → 2 ^ t ≤ set_of f (suc n)
    go (yes q) ih = let a = set_one f n true (ap f (sym q) ∙ e) in let d : 2 ^ t ≡ 2 ^ n = ap (λ (j : ℕ). 2 ^ j) q in omega (arith, a, d)
    go (no q) ih = let a = set_one f n (f n) refl in omega (arith, a, ih (omega arith))

-- ---- bytes
-- a number below 64 is the set of its six bits
own_six : all (λ s. eqb (set_of (has s) 6) s) (range 0 64) ≡ true
unfolding all range has addend set_of
own_six = refl

pub set_own : (s : ℕ) → s < 64 → set_of (has s) 6 ≡ s
set_own s h = eqb-true (set_of (has s) 6) s (all_at (λ s. eqb (set_of (has s) 6) s) (range 0 64) s own_six (in_range_lem 0 64 s (omega arith) (omega arith)))

pub joined_has : (l s k : ℕ) → k < 8 → has (joined l s) k ≡ (eqb l k || has s k)
unfolding joined
joined_has l s k h = set_has (λ k. eqb l k || has s k) 8 k h

-- a location's bit is added where it is not set
unfoldable plus : ℕ → ℕ → Bool → ℕ
plus l s true = s
plus l s false = s + 2 ^ l

joined_plus : all (λ s. all (λ l. eqb (joined l s) (plus l s (has s l))) (range 0 8)) (range 0 256) ≡ true
unfolding all range has addend set_of joined plus
joined_plus = refl

joined_by : (l s : ℕ) → l < 8 → s < 256 → joined l s ≡ plus l s (has s l)
joined_by l s h k =
    let a = all_at (λ s. all (λ l. eqb (joined l s) (plus l s (has s l))) (range 0 8)) (range 0 256) s joined_plus (in_range_lem 0 256 s (omega arith) (omega arith)) in
    eqb-true (joined l s) (plus l s (has s l)) (all_at (λ l. eqb (joined l s) (plus l s (has s l))) (range 0 8) l a (in_range_lem 0 8 l (omega arith) (omega arith)))

pub joined_there : (l s : ℕ) → l < 8 → s < 256 → has s l ≡ true → joined l s ≡ s
unfolding plus
joined_there l s h k e = joined_by l s h k ∙ ap (plus l s) e

pub joined_new : (l s : ℕ) → l < 8 → s < 256 → has s l ≡ false → joined l s ≡ s + 2 ^ l
unfolding plus
joined_new l s h k e = joined_by l s h k ∙ ap (plus l s) e

pub joined_below : (l s : ℕ) → joined l s < 256
unfolding joined
joined_below l s = set_below (λ k. eqb l k || has s k) 8
