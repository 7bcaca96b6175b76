-- The callers in turn. `distance n k` callers come between the last one served and caller k; whoever asks and comes first is no farther, and
-- from that one on k is nearer.
use Prim.Native.Nat.{ℕ, zero, suc, ◌+◌, ◌-◌, ◌%◌, ◌<◌, ◌≤◌}
use mathlib.Core.Path.{◌≡◌, refl, sym, ap, subst, ◌∙◌}
use mathlib.Core.Logic.{◌⊎◌, inl, inr, ⊎_elim}
use mathlib.Core.Bool.{Bool, true, false, cond, ◌&&◌, ◌||◌, false≢true}
use mathlib.Core.Option.{Option, none, some}
use mathlib.Core.List.Memᴰ
use mathlib.Core.List.{List, [], ◌∷◌, map, Memᴰ}
use native.Mathlib.Omega.{arith}
use borrow.Author.Tests.{eqb-true, le-ltb, ltb-true, ltb-false, leb-true}
use lib.Dec.{eqb, ltb, leb}
use lib.ListN.{length, get_or}
use Rattle.spec_file.proofs.DigitValues.{both}
use Rattle.spec_file.proofs.Tests.{either}
use Rattle.spec_schedules.specs.Lists.{range, all, find}
use Rattle.spec_schedules.proofs.Lists.{all_at, in_range_lem, find_yes, find_no}
use Rattle.spec_service.specs.Call.{last_read, in_turn}

-- the caller served last, as it is read, is one of the four; reading it twice is reading it once
pub last_small : (n : ℕ) → last_read n < 4
unfolding last_read
last_small n = go (ltb 3 n) refl
  where
    go : (b : Bool) → ltb 3 n ≡ b → cond (ltb 3 n) 3 n < 4
    go true e = rw e (omega arith)
    go false e = rw e (let z = ltb-false 3 n e in omega (arith, z))

pub last_twice : (n : ℕ) → n < 4 → last_read n ≡ n
unfolding last_read
last_twice n h = rw (le-ltb 3 n (omega (arith, h)))

in_turn_read : (n : ℕ) → in_turn (last_read n) ≡ in_turn n
unfolding in_turn
in_turn_read n = ap (λ (m : ℕ). map (λ d. (m + d) % 4) (1 ∷ 2 ∷ 3 ∷ 4 ∷ [])) (last_twice (last_read n) (last_small n))

unfoldable pub distance : ℕ → ℕ → ℕ
distance n k = (k + 3 - n) % 4

-- the first member that passes a test is a member
pub find_member : {A : Type 0} (f : A → Bool) (l : List A) (x : A) → find f l ≡ some x → Memᴰ x l
unfolding find
find_member f [] x e = absurd (let z : ◌≡◌ {A = ℕ} 0 1 = cc in omega arith)
find_member f (y ∷ l) x e = go (f y) refl (λ q. find_member f l x q)
  where
    go : (b : Bool) → f y ≡ b → (find f l ≡ some x → Memᴰ x l) → Memᴰ x (y ∷ l)
    go true q ih = let z : y ≡ x = (let w = sym (find_yes f y l q) ∙ e in cc) in Memᴰ.head (sym z)
    go false q ih = Memᴰ.tail (ih (sym (find_no f y l q) ∙ e))

-- where k stands in turn, and who stands before it
unfoldable nearer : ℕ → ℕ → ℕ → Bool
nearer n k j = ltb (get_or (in_turn n) j 0) 4 && (leb (distance n k) j || ltb (distance (get_or (in_turn n) j 0) k) (distance n k))

unfoldable right : ℕ → ℕ → Bool
right n k = eqb (get_or (in_turn n) (distance n k) 0) k && (ltb (distance n k) 4 && all (nearer n k) (range 0 4))

all_sixteen : all (λ n. all (right n) (range 0 4)) (range 0 4) ≡ true
unfolding all range right nearer in_turn last_read distance
all_sixteen = refl

-- what the test says of two callers
rightly : (n k : ℕ) → n < 4 → k < 4 → right n k ≡ true
rightly n k h i = all_at (right n) (range 0 4) k (all_at (λ m. all (right m) (range 0 4)) (range 0 4) n all_sixteen (in_range_lem 0 4 n (omega arith) h)) (in_range_lem 0 4 k (omega arith) i)

-- the first that passes a test stands no later than one that does
find_at : (f : ℕ → Bool) (xs : List ℕ) (i : ℕ) → i < length xs → f (get_or xs i 0) ≡ true →
    (j : ℕ) × (j ≤ i) × (find f xs ≡ some (get_or xs j 0)) × (f (get_or xs j 0) ≡ true)
find_at f [] i h e = absurd (omega arith)
find_at f (x ∷ xs) i h e = go (f x) refl i h e (λ m. find_at f xs m)
  where
    go : (b : Bool) → f x ≡ b → (i : ℕ) → i < length (x ∷ xs) → f (get_or (x ∷ xs) i 0) ≡ true →
        ((m : ℕ) → m < length xs → f (get_or xs m 0) ≡ true → (j : ℕ) × (j ≤ m) × (find f xs ≡ some (get_or xs j 0)) × (f (get_or xs j 0) ≡ true)) →
        (j : ℕ) × (j ≤ i) × (find f (x ∷ xs) ≡ some (get_or (x ∷ xs) j 0)) × (f (get_or (x ∷ xs) j 0) ≡ true)
    go true q i h e ih = (0, omega arith, find_yes f x xs q, q)
    go false q zero h e ih = absurd (false≢true (sym q ∙ e))
    go false q (suc i) h e ih = let r = ih i (omega arith) e in (suc r.0, omega (arith, r.1), find_no f x xs q ∙ r.2, r.3)

-- THE NEXT in turn that passes a test which k passes: k itself, or one behind whom k is nearer
pub next_nearer : (f : ℕ → Bool) (n k : ℕ) → n < 4 → k < 4 → f k ≡ true →
    (m : ℕ) × (find f (in_turn n) ≡ some m) × (m < 4) × (f m ≡ true) × ((m ≡ k) ⊎ (distance m k < distance n k))
unfolding right nearer in_turn
next_nearer f n k h i e = (get_or (in_turn n) j 0, r.2, ltb-true _ 4 here.0, r.3, near)
  where
    t : (eqb (get_or (in_turn n) (distance n k) 0) k ≡ true) × ((ltb (distance n k) 4 && all (nearer n k) (range 0 4)) ≡ true)
    t = both (eqb (get_or (in_turn n) (distance n k) 0) k) (ltb (distance n k) 4 && all (nearer n k) (range 0 4)) (rightly n k h i)

    u : (ltb (distance n k) 4 ≡ true) × (all (nearer n k) (range 0 4) ≡ true)
    u = both (ltb (distance n k) 4) (all (nearer n k) (range 0 4)) t.1

    at : get_or (in_turn n) (distance n k) 0 ≡ k
    at = eqb-true _ k t.0

    close : distance n k < 4
    close = ltb-true _ 4 u.0

    r : (j : ℕ) × (j ≤ distance n k) × (find f (in_turn n) ≡ some (get_or (in_turn n) j 0)) × (f (get_or (in_turn n) j 0) ≡ true)
    r = find_at f (in_turn n) (distance n k) close (ap f at ∙ e)

    j : ℕ
    j = r.0

    here : (ltb (get_or (in_turn n) j 0) 4 ≡ true) × ((leb (distance n k) j || ltb (distance (get_or (in_turn n) j 0) k) (distance n k)) ≡ true)
    here = both (ltb (get_or (in_turn n) j 0) 4) (leb (distance n k) j || ltb (distance (get_or (in_turn n) j 0) k) (distance n k))
        (all_at (nearer n k) (range 0 4) j u.1 (in_range_lem 0 4 j (omega arith) (omega (arith, r.1, close))))

    near : (get_or (in_turn n) j 0 ≡ k) ⊎ (distance (get_or (in_turn n) j 0) k < distance n k)
    near = ⊎_elim (λ (q : leb (distance n k) j ≡ true). inl (ap (λ (m : ℕ). get_or (in_turn n) m 0) (let z : j ≡ distance n k = omega (arith, r.1, leb-true _ j q) in z) ∙ at))
        (λ (q : ltb (distance (get_or (in_turn n) j 0) k) (distance n k) ≡ true). inr (ltb-true _ _ q))
        (either (leb (distance n k) j) (ltb (distance (get_or (in_turn n) j 0) k) (distance n k)) here.1)

-- an asking caller comes nearer in turn, whatever number the last one served has
pub turn_nearer : (f : ℕ → Bool) (n k : ℕ) → k < 4 → f k ≡ true →
    (m : ℕ) × (find f (in_turn n) ≡ some m) × (m < 4) × (f m ≡ true) × ((m ≡ k) ⊎ (distance m k < distance (last_read n) k))
turn_nearer f n k small e =
    subst (λ (l : List ℕ). (m : ℕ) × (find f l ≡ some m) × (m < 4) × (f m ≡ true) × ((m ≡ k) ⊎ (distance m k < distance (last_read n) k)))
    (in_turn_read n) (next_nearer f (last_read n) k (last_small n) small e)

-- whoever is found is one of the four
pub turn_small : (f : ℕ → Bool) (n k : ℕ) → find f (in_turn n) ≡ some k → k < 4
unfolding in_turn
turn_small f n k e = go (last_read n) (find_member f (in_turn n) k e)
  where
    go : (m : ℕ) → Memᴰ k (map (λ d. (m + d) % 4) (1 ∷ 2 ∷ 3 ∷ 4 ∷ [])) → k < 4
    go m i = let r = Memᴰ.of_map (λ d. (m + d) % 4) (1 ∷ 2 ∷ 3 ∷ 4 ∷ []) i in let z = r.2 in omega (arith, z)

-- where no caller passes a test none is found
pub turn_none : (f : ℕ → Bool) (n : ℕ) → ((k : ℕ) → k < 4 → f k ≡ false) → find f (in_turn n) ≡ none
unfolding in_turn find
turn_none f n h = go (last_read n)
  where
    at : (k : ℕ) → f (k % 4) ≡ false
    at k = h (k % 4) (omega arith)

    go : (m : ℕ) → find f ((m + 1) % 4 ∷ (m + 2) % 4 ∷ (m + 3) % 4 ∷ (m + 4) % 4 ∷ []) ≡ none
    go m = rw (at (m + 1), at (m + 2), at (m + 3), at (m + 4), find)
