-- EQUAL WORDS, EQUAL NUMBERS: digits of equally many numbers, pairs of equally many values, and zeros behind.
use Prim.Native.Nat.{ℕ, suc, ◌+◌, ◌-◌, ◌*◌, ◌/◌, ◌^◌, ◌<◌, ◌≤◌}
use mathlib.Core.Path.{◌≡◌, refl, ap, ap₂, ◌∙◌}
use mathlib.Core.List.{List, [], ◌∷◌, ◌++◌}
use native.Mathlib.Omega.{arith}
use lib.ListN.{length, length-append, length-replicate, replicate}
use Rattle.spec_file.specs.WellFormed.{Everywhere}
use Rattle.spec_file.proofs.Everywhere.{everywhere_at}
use Rattle.theory_sc.specs.ThreadWords.{digits}
use Rattle.theory_sc.proofs.ThreadWords.{digits_below}
use Rattle.theory_sc_key.specs.Key.{pairs, padded}

abbrev pub six_bits : List ℕ → ℕ
six_bits = digits 64 (λ n. n)

pub six_bits_once : (xs ys : List ℕ) → length xs ≡ length ys → Everywhere (λ n. n < 64) xs → Everywhere (λ n. n < 64) ys → six_bits xs ≡ six_bits ys → xs ≡ ys
unfolding digits
six_bits_once [] [] n h k e = refl
six_bits_once [] (y ∷ ys) n h k e = absurd (omega arith)
six_bits_once (x ∷ xs) [] n h k e = absurd (omega arith)
six_bits_once (x ∷ xs) (y ∷ ys) n h k e =
    let a = h.0 in
    let b = k.0 in
    let q : six_bits xs ≡ six_bits ys = omega arith in
    ap₂ (λ (z : ℕ) (l : List ℕ). z ∷ l) (omega arith) (six_bits_once xs ys (omega arith) h.1 k.1 q)

pub six_bits_below : (xs : List ℕ) → Everywhere (λ n. n < 64) xs → six_bits xs < 64 ^ length xs
six_bits_below xs h = digits_below 64 (omega arith) (λ n. n) xs (λ x m. everywhere_at (λ n. n < 64) m h)

abbrev pub Halves : List ℕ → Type 0
Halves = Everywhere (λ n. n < 2 ^ 32)

pub pairs_once : (l m : List ℕ) → length l ≡ length m → Halves l → Halves m → pairs l ≡ pairs m → l ≡ m
unfolding pairs
pairs_once [] [] n h k e = refl
pairs_once [] (y ∷ m) n h k e = absurd (omega arith)
pairs_once (x ∷ l) [] n h k e = absurd (omega arith)
pairs_once (x ∷ []) (y ∷ []) n h k e = e
pairs_once (x ∷ []) (y ∷ z ∷ m) n h k e = absurd (omega arith)
pairs_once (x ∷ z ∷ l) (y ∷ []) n h k e = absurd (omega arith)
pairs_once (x ∷ u ∷ l) (y ∷ v ∷ m) n h k e =
    let a = h.0 in
    let b = h.1.0 in
    let c = k.0 in
    let d = k.1.0 in
    let q : x + 2 ^ 32 * u ≡ y + 2 ^ 32 * v = cc in
    let r : pairs l ≡ pairs m = cc in
    let s : u ≡ v = omega arith in
    let t : x ≡ y = omega arith in
    ap₂ (λ (z : ℕ) (o : List ℕ). z ∷ o) t (ap₂ (λ (z : ℕ) (o : List ℕ). z ∷ o) s (pairs_once l m (omega arith) h.1.1 k.1.1 r))

pub pairs_length : (l m : List ℕ) → length l ≡ length m → length (pairs l) ≡ length (pairs m)
unfolding pairs
pairs_length [] [] n = refl
pairs_length [] (y ∷ m) n = absurd (omega arith)
pairs_length (x ∷ l) [] n = absurd (omega arith)
pairs_length (x ∷ []) (y ∷ []) n = refl
pairs_length (x ∷ []) (y ∷ z ∷ m) n = absurd (omega arith)
pairs_length (x ∷ z ∷ l) (y ∷ []) n = absurd (omega arith)
pairs_length (x ∷ u ∷ l) (y ∷ v ∷ m) n = ap suc (pairs_length l m (omega arith))

pub pairs_half : (l : List ℕ) → length (pairs l) ≡ (length l + 1) / 2
unfolding pairs
pairs_half [] = refl
pairs_half (x ∷ []) = refl
pairs_half (x ∷ y ∷ l) = let q = pairs_half l in omega arith

pub pairs_below : (l : List ℕ) → Halves l → Everywhere (λ n. n < 2 ^ 64) (pairs l)
unfolding pairs
pairs_below [] h = tt
pairs_below (x ∷ []) h = let a = h.0 in (omega arith, tt)
pairs_below (x ∷ y ∷ l) h = let a = h.0 in let b = h.1.0 in (omega arith, pairs_below l h.1.1)

pub front_once : (l m a b : List ℕ) → length l ≡ length m → l ++ a ≡ m ++ b → (l ≡ m) × (a ≡ b)
front_once [] [] a b n e = (refl, e)
front_once [] (y ∷ m) a b n e = absurd (omega arith)
front_once (x ∷ l) [] a b n e = absurd (omega arith)
front_once (x ∷ l) (y ∷ m) a b n e =
    let q : l ++ a ≡ m ++ b = cc in
    let h : x ≡ y = cc in
    let r = front_once l m a b (omega arith) q in
    (ap₂ (λ (z : ℕ) (o : List ℕ). z ∷ o) h r.0, r.1)

pub padded_length : (n : ℕ) (l : List ℕ) → length l ≤ n → length (padded n l) ≡ n
unfolding padded
padded_length n l h = let e = length-replicate {A = ℕ} (n - length l) 0 in length-append l (replicate (n - length l) 0) ∙ omega (arith, e)
