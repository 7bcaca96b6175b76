-- Words mixed, one after the other; slots do not overlap: two keys' places are one, or a whole slot apart.
use Rattle.std.proofs.Common.{◌≡◌, ℕ, suc, ◌+◌, ◌*◌, ◌<◌, ◌≤◌, Bool, true, false, ltb, ◌⊎◌, List, length, get_or, drop, refl, ap, inl, inr, mul-le-mul_right, suc-mul, add-one, arith, drop_of_length-le, drop-cons, ltb-false, ltb-true}
use Rattle.table.specs.Places.{mixed, hash_from, slot_of, place_of}

pub hash_more : (h i : ℕ) (k : List ℕ) → i < length k → hash_from h (drop i k) ≡ hash_from (mixed h (get_or k i 0)) (drop (i + 1) k)
unfolding hash_from
hash_more h i k l = rw (add-one, drop-cons k i 0 l)

pub hash_none : (h i : ℕ) (k : List ℕ) → length k ≤ i → hash_from h (drop i k) ≡ h
unfolding hash_from
hash_none h i k l = rw (drop_of_length-le k {i = i} l)

-- different slots of one width are a slot apart
apart : (a b w : ℕ) → (a * w ≡ b * w) ⊎ ((a * w + w ≤ b * w) ⊎ (b * w + w ≤ a * w))
apart a b w = go (ltb a b) (ltb b a) refl refl
  where
    below : (x y : ℕ) → x < y → x * w + w ≤ y * w
    below x y h = let l : suc x * w ≤ y * w = mul-le-mul_right w h in rw suc-mul at l

    go : (p q : Bool) → ltb a b ≡ p → ltb b a ≡ q → (a * w ≡ b * w) ⊎ ((a * w + w ≤ b * w) ⊎ (b * w + w ≤ a * w))
    go true q u v = inr (inl (below a b (ltb-true a b u)))
    go false true u v = inr (inr (below b a (ltb-true b a v)))
    go false false u v = let e : a ≡ b = omega (arith, ltb-false a b u, ltb-false b a v) in inl (ap (λ (n : ℕ). n * w) e)

pub place_apart : (slots width : ℕ) (j k : List ℕ) → length j ≡ length k → (place_of slots width j ≡ place_of slots width k)
    ⊎ ((place_of slots width j + (length k + width) ≤ place_of slots width k) ⊎ (place_of slots width k + (length k + width) ≤ place_of slots width j))
unfolding place_of
place_apart slots width j k e = go (ltb 4096 (length k)) (ltb 4096 width) refl refl
  where
    go : (a b : Bool) → ltb 4096 (length k) ≡ a → ltb 4096 width ≡ b → (place_of slots width j ≡ place_of slots width k)
        ⊎ ((place_of slots width j + (length k + width) ≤ place_of slots width k) ⊎ (place_of slots width k + (length k + width) ≤ place_of slots width j))
    go true b u v = inl (rw (e, u))
    go false true u v = inl (rw (e, u, v))
    go false false u v = rw (e, u, v) (apart (slot_of slots (hash_from 0 j)) (slot_of slots (hash_from 0 k)) (length k + width))
