-- The permutations of six are a group: each has its inverse among them, and composition acts as one after the other.
use mathlib.Core.Path.{◌≡◌, refl, sym, ap, ap₂, subst, ◌∙◌}
use mathlib.Core.Bool.{Bool, true, false, true≢false, false≢true}
use mathlib.Core.Logic.{⊎_elim}
use mathlib.Core.List.Memᴰ
use mathlib.Core.List.{List, [], ◌∷◌, map, Memᴰ}
use Prim.Native.Nat.{ℕ, zero, suc, ◌+◌, ◌%◌, ◌<◌, ◌≤◌}
use native.Mathlib.Omega.{arith}
use native.Mathlib.Decide.{dec_lt}
use native.Mathlib.Nat.{not-suc-le-zero, le_of_suc-le-suc}
use lib.Dec.{eqb, ltb}
use lib.ListN.{length, get_or, get_or-map, get_or-eq_default, length-map}
use lib.Seq.{ext_get_or}
use borrow.Author.Tests.{eqb-true, eq-eqb, ltb-true}
use Rattle.spec_schedules.specs.Lists.{range, both, any, all, Distinct}
use Rattle.spec_schedules.proofs.PermutationTerms.{Permutation, inverse, compose}
use Rattle.spec_schedules.specs.Permutations.{permutations, permutation_of, moved}
use Rattle.spec_schedules.proofs.Lists.{both_left, both_right, any_no, all_at}
use Rattle.spec_schedules.proofs.Permutations.{permutations_complete}
use Rattle.spec_schedules.proofs.Numbered.{permutations_length, same_numbers, distinctb, permutationb, invertible, all_invertible}

-- what the tests say
same_numbers_lem : (xs ys : List ℕ) → same_numbers xs ys ≡ true → xs ≡ ys
unfolding same_numbers
same_numbers_lem [] [] e = refl
same_numbers_lem [] (y ∷ ys) e = absurd (false≢true e)
same_numbers_lem (x ∷ xs) [] e = absurd (false≢true e)
same_numbers_lem (x ∷ xs) (y ∷ ys) e = go (eqb x y) refl (λ k. same_numbers_lem xs ys k)
  where
    go : (b : Bool) → eqb x y ≡ b → (same_numbers xs ys ≡ true → xs ≡ ys) → ◌≡◌ {A = List ℕ} (x ∷ xs) (y ∷ ys)
    go true q ih = ap₂ {C = List ℕ} (λ z zs. z ∷ zs) (eqb-true x y q) (ih (rw (q, same_numbers) at e))
    go false q ih = absurd (false≢true (rw (q, same_numbers) at e))

distinct_is : (xs : List ℕ) → distinctb xs ≡ true → Distinct xs
unfolding distinctb
distinct_is [] e = tt
distinct_is (x ∷ xs) e = go (any (eqb x) xs) refl (λ k. distinct_is xs k)
  where
    go : (b : Bool) → any (eqb x) xs ≡ b → (distinctb xs ≡ true → Distinct xs) → Distinct (x ∷ xs)
    go true q ih = absurd (false≢true (rw (q, distinctb) at e))
    go false q ih = ((λ m. true≢false (sym (eq-eqb x x refl) ∙ any_no (eqb x) xs x q m)), ih (rw (q, distinctb) at e))

pub permutation_is : (π : List ℕ) → permutationb π ≡ true → Permutation π
unfolding permutationb
permutation_is π e =
    let r = both_right (eqb (length π) 6) _ e in
    record {
      six = eqb-true (length π) 6 (both_left (eqb (length π) 6) _ e);
      below = λ x m. ltb-true x 6 (all_at (λ x. ltb x 6) π x (both_left (all (λ x. ltb x 6) π) _ r) m);
      distinct = distinct_is π (both_right (all (λ x. ltb x 6) π) _ r);
    }

-- reading inside a list: the default does not matter, and what is read is a member
pub get_d_any : {A : Type 0} (l : List A) (i : ℕ) (d e : A) → i < length l → get_or l i d ≡ get_or l i e
get_d_any [] i d e h = absurd (not-suc-le-zero h)
get_d_any (x ∷ xs) zero d e h = refl
get_d_any (x ∷ xs) (suc i) d e h = get_d_any xs i d e (le_of_suc-le-suc h)

get_d_member : {A : Type 0} (l : List A) (i : ℕ) (d : A) → i < length l → Memᴰ (get_or l i d) l
get_d_member [] i d h = absurd (not-suc-le-zero h)
get_d_member (x ∷ xs) zero d h = Memᴰ.head refl
get_d_member (x ∷ xs) (suc i) d h = Memᴰ.tail (get_d_member xs i d (le_of_suc-le-suc h))

-- each member of a list can be read at some number
member_at : {A : Type 0} (l : List A) (x d : A) → Memᴰ x l → (i : ℕ) × (i < length l) × (get_or l i d ≡ x)
member_at [] x d m = absurd (Memᴰ.not-nil m)
member_at (y ∷ ys) x d m = ⊎_elim (λ (e : x ≡ y). (zero, omega arith, sym e)) (λ (k : Memᴰ x ys). let r = member_at ys x d k in (suc r.0, omega (arith, r.1), r.2)) (Memᴰ.cases_cons m)

-- composition acts as one after the other
pub compose_moved : (ρ π : List ℕ) → length ρ ≤ length π → (x : ℕ) → moved (compose ρ π) x ≡ moved ρ (moved π x)
unfolding compose
compose_moved ρ π le x = go (dec_lt x (length π))
  where
    go : Dec (x < length π) → moved (compose ρ π) x ≡ moved ρ (moved π x)
    go (yes h) = get_d_any (map (moved ρ) π) x x (moved ρ x) (omega (arith, length-map π (moved ρ))) ∙ get_or-map (moved ρ) π x x
    go (no h) =
        let a = get_or-eq_default π x {n = x} (omega arith) in
        get_or-eq_default (map (moved ρ) π) x {n = x} (omega (arith, length-map π (moved ρ)))
        ∙ sym (get_or-eq_default ρ x {n = x} (omega arith)) ∙ ap (moved ρ) (sym a)

-- the identity
get_d_range : (a n i d : ℕ) → d ≡ a + i → get_or (range a n) i d ≡ d
unfolding range
get_d_range a zero i d e = refl
get_d_range a (suc n) zero d e = omega arith
get_d_range a (suc n) (suc i) d e = get_d_range (suc a) n i d (omega arith)

pub identity_moved : (x : ℕ) → moved (range 0 6) x ≡ x
identity_moved x = get_d_range 0 6 x x (omega arith)

-- two lists of one length that move alike are equal
pub moved_same : (π ρ : List ℕ) → length π ≡ length ρ → ((x : ℕ) → moved π x ≡ moved ρ x) → π ≡ ρ
moved_same π ρ e h = ext_get_or 0 π ρ e (λ i k. get_d_any π i 0 i k ∙ h i ∙ get_d_any ρ i i 0 (omega arith))

-- every member: a permutation, with its inverse
module _ (π : List ℕ) (m : Memᴰ π permutations) where
  test : invertible π ≡ true
  test = all_at invertible permutations π all_invertible m

  pub member_permutation : Permutation π
  unfolding invertible
  member_permutation = permutation_is π (both_left (permutationb π) _ test)

  pub inverse_permutation : Permutation (inverse π)
  unfolding invertible
  inverse_permutation = permutation_is (inverse π) (both_left (permutationb (inverse π)) _ (both_right (permutationb π) _ test))

  pub inverse_member : Memᴰ (inverse π) permutations
  inverse_member = permutations_complete (inverse π) inverse_permutation

  undo : (compose (inverse π) π ≡ range 0 6) × (compose π (inverse π) ≡ range 0 6)
  unfolding invertible
  undo =
      let r = both_right (permutationb (inverse π)) _ (both_right (permutationb π) _ test) in (
        same_numbers_lem (compose (inverse π) π) (range 0 6) (both_left (same_numbers (compose (inverse π) π) (range 0 6)) _ r),
        same_numbers_lem (compose π (inverse π)) (range 0 6) (both_right (same_numbers (compose (inverse π) π) (range 0 6)) _ r),
      )

  lengths : length (inverse π) ≡ length π
  lengths = inverse_permutation.six ∙ sym member_permutation.six

  pub inverse_left : (x : ℕ) → moved (inverse π) (moved π x) ≡ x
  inverse_left x = sym (compose_moved (inverse π) π (omega (arith, lengths)) x) ∙ ap (λ (l : List ℕ). moved l x) undo.0 ∙ identity_moved x

  pub inverse_right : (x : ℕ) → moved π (moved (inverse π) x) ≡ x
  inverse_right x = sym (compose_moved π (inverse π) (omega (arith, lengths)) x) ∙ ap (λ (l : List ℕ). moved l x) undo.1 ∙ identity_moved x

  pub moved_injective : (x y : ℕ) → moved π x ≡ moved π y → x ≡ y
  moved_injective x y e = sym (inverse_left x) ∙ ap (moved (inverse π)) e ∙ inverse_left y

  -- a permutation moves numbers below six among themselves, and no other
  pub moved_below : (x : ℕ) → x < 6 → moved π x < 6
  moved_below x h = member_permutation.below (moved π x) (get_d_member π x x (omega (arith, member_permutation.six)))

  pub moved_above : (x : ℕ) → 6 ≤ x → moved π x ≡ x
  moved_above x h = get_or-eq_default π x {n = x} (omega (arith, member_permutation.six))

-- what has no duplicates keeps none under an injective function
pub distinct_map : (f : ℕ → ℕ) → ((x y : ℕ) → f x ≡ f y → x ≡ y) → (l : List ℕ) → Distinct l → Distinct (map f l)
distinct_map f inj [] d = tt
distinct_map f inj (x ∷ l) d = (
  (λ m. let r = Memᴰ.of_map f l m in d.0 (subst (λ (z : ℕ). Memᴰ z l) (inj r.0 x r.2) r.1)),
  distinct_map f inj l d.1,
)

-- composition stays among them
pub compose_member : (ρ π : List ℕ) → Memᴰ ρ permutations → Memᴰ π permutations → Memᴰ (compose ρ π) permutations
unfolding compose
compose_member ρ π m n =
    let p = member_permutation π n in
    permutations_complete (map (moved ρ) π) (record {
      six = length-map π (moved ρ) ∙ p.six;
      below = λ x k. let r = Memᴰ.of_map (moved ρ) π k in subst (λ (z : ℕ). z < 6) r.2 (moved_below ρ m r.0 (p.below r.0 r.1));
      distinct = distinct_map (moved ρ) (moved_injective ρ m) π p.distinct;
    })

pub identity_member : Memᴰ (range 0 6) permutations
unfolding range permutationb both all distinctb any
identity_member = permutations_complete (0 ∷ 1 ∷ 2 ∷ 3 ∷ 4 ∷ 5 ∷ []) (permutation_is (0 ∷ 1 ∷ 2 ∷ 3 ∷ 4 ∷ 5 ∷ []) test_identity)
  where
    test_identity : permutationb (0 ∷ 1 ∷ 2 ∷ 3 ∷ 4 ∷ 5 ∷ []) ≡ true
    test_identity = refl

-- EVERY PERMUTATION HAS ITS NUMBER, and every number a permutation
pub number_of : (π : List ℕ) → Memᴰ π permutations → (k : ℕ) × (k < 720) × (permutation_of k ≡ π)
unfolding permutation_of
number_of π m =
    let r = member_at permutations π [] m in
    let h : r.0 < 720 = omega (arith, r.1, permutations_length) in
    let e : r.0 % 720 ≡ r.0 = omega (arith, h) in
    (r.0, h, ap (λ (i : ℕ). get_or permutations i []) e ∙ r.2)

pub number_rest : (k : ℕ) → permutation_of k ≡ permutation_of (k % 720)
unfolding permutation_of
number_rest k = let e : k % 720 ≡ k % 720 % 720 = omega arith in ap (λ (i : ℕ). get_or permutations i []) e

pub numbered_member : (k : ℕ) → Memᴰ (permutation_of k) permutations
unfolding permutation_of
numbered_member k = get_d_member permutations (k % 720) [] (omega (arith, permutations_length))
