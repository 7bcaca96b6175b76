-- The list of permutations has every permutation of six, ascending.
use mathlib.Core.Path.{◌≡◌, refl, sym, subst, ◌∙◌}
use mathlib.Core.Logic.{◌≢◌, ◌⊎◌, inl, inr, ⊎_elim}
use mathlib.Core.Bool.{Bool, true, false}
use mathlib.Core.List.{List, [], ◌∷◌, Memᴰ}
use Prim.Native.Nat.{ℕ, zero, suc}
use native.Mathlib.Omega.{arith}
use lib.Dec.{eqb, ltb}
use lib.ListN.{length}
use borrow.Author.Tests.{eqb-true, ltb-true}
use Rattle.spec_schedules.specs.Lists.{range, Distinct}
use Rattle.spec_file.specs.Lists.{Ascends}
use Rattle.spec_schedules.specs.Order.{less}
use Rattle.spec_schedules.specs.Fulls.{fronts}
use Rattle.spec_schedules.proofs.PermutationTerms.{Permutation}
use Rattle.spec_schedules.specs.Permutations.{without, each, perms_of, permutations}
use Rattle.spec_schedules.proofs.Order.{less_heads}
use Rattle.spec_schedules.proofs.Lists.{in_range_lem, range_ascends, ascends_append}
use Rattle.spec_schedules.proofs.Fulls.{in_fronts, of_fronts, fronts_ascends}

in_without : (a x : ℕ) (xs : List ℕ) → x ≢ a → Memᴰ x xs → Memᴰ x (without a xs)
unfolding without
in_without a x [] ne m = m
in_without a x (y ∷ ys) ne m = go (eqb a y) refl (mathlib.Core.List.Memᴰ.cases_cons m) (λ k. in_without a x ys ne k)
  where
    go : (b : Bool) → eqb a y ≡ b → (x ≡ y) ⊎ Memᴰ x ys → (Memᴰ x ys → Memᴰ x (without a ys)) → Memᴰ x (without a (y ∷ ys))
    go true e (inl h) ih = absurd (ne (h ∙ sym (eqb-true a y e)))
    go true e (inr h) ih = rw (e, without) h
    go false e (inl h) ih = rw (e, without) (mathlib.Core.List.Memᴰ.head h)
    go false e (inr h) ih = rw (e, without) (mathlib.Core.List.Memᴰ.tail (ih h))

of_without : (a x : ℕ) (xs : List ℕ) → Memᴰ x (without a xs) → Memᴰ x xs
unfolding without
of_without a x [] m = m
of_without a x (y ∷ ys) m = go (eqb a y) refl (λ k. of_without a x ys k)
  where
    go : (b : Bool) → eqb a y ≡ b → (Memᴰ x (without a ys) → Memᴰ x ys) → Memᴰ x (y ∷ ys)
    go true e ih = mathlib.Core.List.Memᴰ.tail (rw (e, without) at m)
    go false e ih = ⊎_elim (λ (h : x ≡ y). mathlib.Core.List.Memᴰ.head h) (λ (k : Memᴰ x (without a ys)). mathlib.Core.List.Memᴰ.tail (ih k)) (mathlib.Core.List.Memᴰ.cases_cons (rw (e, without) at m))

without_ascends : (a : ℕ) (xs : List ℕ) → Ascends ltb xs → Ascends ltb (without a xs)
unfolding without
without_ascends a [] h = tt
without_ascends a (y ∷ ys) h = go (eqb a y) refl (without_ascends a ys h.1)
  where
    go : (b : Bool) → eqb a y ≡ b → Ascends ltb (without a ys) → Ascends ltb (without a (y ∷ ys))
    go true e ih = rw (e, without) h.1
    go false e ih = rw (e, without) ((λ x m. h.0 x (of_without a x ys m)), ih)

in_each : (f : List ℕ → List (List ℕ)) (xs ys : List ℕ) (y : ℕ) (l : List ℕ) → Memᴰ y ys → Memᴰ l (f (without y xs)) → Memᴰ (y ∷ l) (each f xs ys)
unfolding each
in_each f xs [] y l m h = absurd (mathlib.Core.List.Memᴰ.not-nil m)
in_each f xs (z ∷ zs) y l m h = go (mathlib.Core.List.Memᴰ.cases_cons m) (λ k. in_each f xs zs y l k h)
  where
    go : (y ≡ z) ⊎ Memᴰ y zs → (Memᴰ y zs → Memᴰ (y ∷ l) (each f xs zs)) → Memᴰ (y ∷ l) (each f xs (z ∷ zs))
    go (inl e) ih = mathlib.Core.List.Memᴰ.append_left {s = fronts z (f (without z xs))} (each f xs zs) (rw (← e) (in_fronts y l (f (without y xs)) h))
    go (inr k) ih = mathlib.Core.List.Memᴰ.append_right (fronts z (f (without z xs))) (ih k)

of_each : (f : List ℕ → List (List ℕ)) (xs ys l : List ℕ) → Memᴰ l (each f xs ys) → (y : ℕ) × (r : List ℕ) × (l ≡ y ∷ r) × Memᴰ y ys
unfolding each
of_each f xs [] l m = absurd (mathlib.Core.List.Memᴰ.not-nil m)
of_each f xs (z ∷ zs) l m = ⊎_elim (λ (k : Memᴰ l (fronts z (f (without z xs)))). let r = of_fronts z l (f (without z xs)) k in (z, r.0, r.1, mathlib.Core.List.Memᴰ.head refl))
    (λ (k : Memᴰ l (each f xs zs)). let r = of_each f xs zs l k in (r.0, r.1, r.2, mathlib.Core.List.Memᴰ.tail r.3)) (mathlib.Core.List.Memᴰ.append_cases (fronts z (f (without z xs))) m)

each_ascends : (f : List ℕ → List (List ℕ)) (xs : List ℕ) → ((y : ℕ) → Ascends less (f (without y xs))) → (ys : List ℕ) → Ascends ltb ys → Ascends less (each f xs ys)
unfolding each
each_ascends f xs h [] a = tt
each_ascends f xs h (y ∷ ys) a = ascends_append less (fronts y (f (without y xs))) (each f xs ys) (fronts_ascends y (f (without y xs)) (h y)) (each_ascends f xs h ys a.1)
    (λ l r m n. let p = of_fronts y l (f (without y xs)) m in let q = of_each f xs ys r n in rw (p.1, q.2) (less_heads y q.0 p.0 q.1 (ltb-true y q.0 (a.0 q.0 q.3))))

-- n distinct members in any order are among the ways
pub perms_of_complete : (n : ℕ) (xs ys : List ℕ) → length ys ≡ n → ((y : ℕ) → Memᴰ y ys → Memᴰ y xs) → Distinct ys → Memᴰ ys (perms_of n xs)
unfolding perms_of
perms_of_complete zero xs [] e w d = mathlib.Core.List.Memᴰ.head refl
perms_of_complete zero xs (y ∷ ys) e w d = absurd (omega arith)
perms_of_complete (suc n) xs [] e w d = absurd (omega arith)
perms_of_complete (suc n) xs (y ∷ ys) e w d =
    in_each (λ l. perms_of n l) xs xs y ys (w y (mathlib.Core.List.Memᴰ.head refl))
    (perms_of_complete n (without y xs) ys (omega arith) (λ z m. in_without y z xs (λ q. d.0 (subst (λ (k : ℕ). Memᴰ k ys) q m)) (w z (mathlib.Core.List.Memᴰ.tail m))) d.1)

pub perms_of_ascend : (n : ℕ) (xs : List ℕ) → Ascends ltb xs → Ascends less (perms_of n xs)
unfolding perms_of
perms_of_ascend zero xs a = ((λ y m. absurd (mathlib.Core.List.Memᴰ.not-nil m)), tt)
perms_of_ascend (suc n) xs a = each_ascends (λ l. perms_of n l) xs (λ y. perms_of_ascend n (without y xs) (without_ascends y xs a)) xs a

-- EVERY PERMUTATION is in the list
pub permutations_complete : (π : List ℕ) → Permutation π → Memᴰ π permutations
unfolding permutations
permutations_complete π p = perms_of_complete 6 (range 0 6) π p.six (λ x m. in_range_lem 0 6 x (omega arith) (p.below x m)) p.distinct

pub permutations_ascend : Ascends less permutations
unfolding permutations
permutations_ascend = perms_of_ascend 6 (range 0 6) (range_ascends 0 6)
