-- EVERY KEY HAS A SLOT: where a table has room for so many slots, each key's is within its words. So what is put is found again until
-- another key takes the slot.
use Rattle.std.proofs.Common.{◌≡◌, ℕ, suc, ◌+◌, ◌*◌, ◌/◌, ◌%◌, ◌^◌, ◌<◌, ◌≤◌, Bool, true, false, ltb, List, [], ◌∷◌, length, refl, mul-le-mul_right, suc-mul, arith}
use Rattle.table.specs.Places.{mixed, hash_from, slot_of, place_of}

hash_below : (h : ℕ) (k : List ℕ) → h < 2 ^ 64 → hash_from h k < 2 ^ 64
unfolding hash_from mixed
hash_below h [] l = l
hash_below h (w ∷ k) l = hash_below (mixed h w) k (below (((h + h / 2 ^ 32) % 2 ^ 64 + w) % 2 ^ 64 * 0x9e3779b97f4a7c15))
  where
    below : (n : ℕ) → n % 2 ^ 64 < 2 ^ 64
    below n = omega arith

slot_below : (slots h : ℕ) → h < 2 ^ 64 → 0 < slots → slots < 2 ^ 32 → slot_of slots h < slots
unfolding slot_of
slot_below slots h l p b =
    let m : slots % 2 ^ 32 ≡ slots = omega arith in
    let a : h / 2 ^ 32 ≤ 4294967295 = omega arith in
    let q : h / 2 ^ 32 * slots ≤ 4294967295 * slots = mul-le-mul_right slots a in
    rw m (omega (arith, q))

pub place_fits : (slots width words : ℕ) (k : List ℕ) → slots * (length k + width) ≤ words → 0 < slots → slots < 2 ^ 32 → place_of slots width k + (length k + width) ≤ words
unfolding place_of
place_fits slots width words k f p b = go (ltb 4096 (length k)) (ltb 4096 width) refl refl
  where
    w : ℕ
    w = length k + width

    -- so many slots and one more are no longer than the table
    within : (n : ℕ) → n < slots → n * w + w ≤ words
    within n h = let l : suc n * w ≤ slots * w = mul-le-mul_right w h in omega (arith, suc-mul n w, l, f)

    go : (x y : Bool) → ltb 4096 (length k) ≡ x → ltb 4096 width ≡ y → place_of slots width k + w ≤ words
    go true y u v = rw u (omega (arith, within 0 p))
    go false true u v = rw (u, v) (omega (arith, within 0 p))
    go false false u v = rw (u, v) (within (slot_of slots (hash_from 0 k)) (slot_below slots (hash_from 0 k) (hash_below 0 k (omega arith)) p b))
