-- Counting over lists: members that pass a test, sums, two lists counted against each other, and lists without duplicates that have the same
-- members. Elements need no decidable equality.
use Prim.Native.Nat.{ℕ, zero, suc, ◌+◌, ◌*◌, ◌≤◌}
use native.Mathlib.Omega.{arith}
use mathlib.Core.Path.{◌≡◌, refl, sym, ap, subst, ◌∙◌}
use mathlib.Core.Logic.{◌⊎◌, inl, inr, ⊎_elim}
use mathlib.Core.Bool.{Bool, true, false, cond, true≢false}
use mathlib.Core.List.Memᴰ
use mathlib.Core.List.{List, [], ◌∷◌, map, Memᴰ}
use lib.ListN.{length}
use Rattle.spec_schedules.specs.Lists.{any, filter, Distinct}
use Rattle.spec_file.specs.Lists.{Ascends}
use Rattle.spec_schedules.specs.Classes.{firsts_from, firsts}
use Rattle.spec_schedules.proofs.Lists.{any_yes, any_no, in_filter, of_filter, filter_yes, filter_no}
use Rattle.spec_model.specs.ClassSize.{total}

-- how many members pass
abbrev pub count : {A : Type 0} → (A → Bool) → List A → ℕ
count f l = length (filter f l)

count_cons : {A : Type 0} (f : A → Bool) (x : A) (l : List A) → count f (x ∷ l) ≡ cond (f x) 1 0 + count f l
count_cons {A} f x l = go (f x) refl
  where
    go : (b : Bool) → f x ≡ b → count f (x ∷ l) ≡ cond (f x) 1 0 + count f l
    go true e = let k = ap (λ (r : List A). length r) (filter_yes f x l e) in rw e (omega arith)
    go false e = let k = ap (λ (r : List A). length r) (filter_no f x l e) in rw e (omega arith)

-- a test that all pass
pub keeps_all : {A : Type 0} (l : List A) → filter (λ x. true) l ≡ l
unfolding filter
keeps_all [] = refl
keeps_all {A} (x ∷ l) = ap (λ (r : List A). x ∷ r) (keeps_all l)

-- ---- sums
pub total_same : {A : Type 0} (f g : A → ℕ) (l : List A) → ((x : A) → Memᴰ x l → f x ≡ g x) → total f l ≡ total g l
unfolding total
total_same f g [] h = refl
total_same f g (x ∷ l) h = let a = h x (Memᴰ.head refl) in let b = total_same f g l (λ y m. h y (Memᴰ.tail m)) in omega arith

pub total_of : {A : Type 0} (f : A → ℕ) (k : ℕ) (l : List A) → ((x : A) → Memᴰ x l → f x ≡ k) → total f l ≡ length l * k
unfolding total
total_of f k [] h = omega arith
total_of f k (x ∷ l) h = let a = h x (Memᴰ.head refl) in let b = total_of f k l (λ y m. h y (Memᴰ.tail m)) in omega arith

total_both : {A : Type 0} (f g : A → ℕ) (l : List A) → total (λ x. f x + g x) l ≡ total f l + total g l
unfolding total
total_both f g [] = refl
total_both f g (x ∷ l) = let a = total_both f g l in omega arith

total_tests : {A : Type 0} (f : A → Bool) (l : List A) → total (λ x. cond (f x) 1 0) l ≡ count f l
unfolding total filter
total_tests f [] = refl
total_tests f (x ∷ l) = let a = total_tests f l in let b = count_cons f x l in omega arith

total_none : {A : Type 0} (l : List A) → total (λ x. 0) l ≡ 0
unfolding total
total_none [] = refl
total_none (x ∷ l) = let a = total_none l in omega arith

-- PAIRS COUNTED FROM BOTH SIDES
pub counted_twice : {A B : Type 0} (R : A → B → Bool) (xs : List A) (ys : List B) → total (λ x. count (R x) ys) xs ≡ total (λ y. count (λ x. R x y) xs) ys
unfolding total filter
counted_twice R [] ys = sym (total_none ys)
counted_twice R (x ∷ xs) ys =
    let a = counted_twice R xs ys in
    let b = total_tests (R x) ys in
    let c = total_both (λ y. cond (R x y) 1 0) (λ y. count (λ z. R z y) xs) ys in
    let d = total_same (λ y. count (λ z. R z y) (x ∷ xs)) (λ y. cond (R x y) 1 0 + count (λ z. R z y) xs) ys (λ y m. count_cons (λ z. R z y) x xs) in
    omega arith

-- ---- lists without duplicates
-- a list with one member taken out
taken_out : {A : Type 0} (ys : List A) (x : A) → Memᴰ x ys → (zs : List A) × (length ys ≡ suc (length zs)) × ((y : A) → Memᴰ y ys → (y ≡ x) ⊎ Memᴰ y zs)
taken_out [] x m = absurd (Memᴰ.not-nil m)
taken_out {A} (z ∷ ys) x m = go (Memᴰ.cases_cons m) (λ k. taken_out ys x k)
  where
    go : (x ≡ z) ⊎ Memᴰ x ys → (Memᴰ x ys → (zs : List A) × (length ys ≡ suc (length zs)) × ((y : A) → Memᴰ y ys → (y ≡ x) ⊎ Memᴰ y zs)) →
        (zs : List A) × (length (z ∷ ys) ≡ suc (length zs)) × ((y : A) → Memᴰ y (z ∷ ys) → (y ≡ x) ⊎ Memᴰ y zs)
    go (inl e) ih = (ys, refl, λ y k. ⊎_elim (λ (q : y ≡ z). inl (q ∙ sym e)) (λ (n : Memᴰ y ys). inr n) (Memᴰ.cases_cons k))
    go (inr k) ih =
        let r = ih k in
        (z ∷ r.0, ap suc r.1, λ y n. ⊎_elim (λ (q : y ≡ z). inr (Memᴰ.head q)) (λ (j : Memᴰ y ys). ⊎_elim (λ (i : y ≡ x). inl i) (λ (i : Memᴰ y r.0). inr (Memᴰ.tail i)) (r.2 y j)) (Memᴰ.cases_cons n))

-- whose members another list has, is no longer than that one
pub distinct_within : {A : Type 0} (xs ys : List A) → Distinct xs → ((x : A) → Memᴰ x xs → Memᴰ x ys) → length xs ≤ length ys
distinct_within [] ys d f = omega arith
distinct_within {A} (x ∷ xs) ys d f =
    let r = taken_out ys x (f x (Memᴰ.head refl)) in
    let k = distinct_within xs r.0 d.1 (λ y m. ⊎_elim (λ (e : y ≡ x). absurd (d.0 (subst (λ (z : A). Memᴰ z xs) e m))) (λ (n : Memᴰ y r.0). n) (r.2 y (f y (Memᴰ.tail m)))) in
    omega (arith, k, r.1)

-- TWO THAT HAVE THE SAME MEMBERS are of one length
pub same_length : {A : Type 0} (xs ys : List A) → Distinct xs → Distinct ys → ((x : A) → Memᴰ x xs → Memᴰ x ys) → ((x : A) → Memᴰ x ys → Memᴰ x xs) → length xs ≡ length ys
same_length xs ys a b f g = omega (arith, distinct_within xs ys a f, distinct_within ys xs b g)

pub distinct_ascends : {A : Type 0} (less : A → A → Bool) → ((x : A) → less x x ≡ false) → (l : List A) → Ascends less l → Distinct l
distinct_ascends less irr [] a = tt
distinct_ascends {A} less irr (x ∷ l) a = ((λ m. true≢false (sym (a.0 x m) ∙ irr x)), distinct_ascends less irr l a.1)

pub distinct_filter : {A : Type 0} (f : A → Bool) (l : List A) → Distinct l → Distinct (filter f l)
unfolding filter
distinct_filter f [] d = tt
distinct_filter f (x ∷ l) d = go (f x) refl (distinct_filter f l d.1)
  where
    go : (b : Bool) → f x ≡ b → Distinct (filter f l) → Distinct (filter f (x ∷ l))
    go true e ih = rw (e, filter) ((λ m. d.0 (of_filter f l x m).0), ih)
    go false e ih = rw (e, filter) ih

-- mapped by what is injective on the members
pub distinct_mapped : {A B : Type 0} (f : A → B) (l : List A) → ((x y : A) → Memᴰ x l → Memᴰ y l → f x ≡ f y → x ≡ y) → Distinct l → Distinct (map f l)
distinct_mapped f [] inj d = tt
distinct_mapped {A} f (x ∷ l) inj d = (
  (λ m. let r = Memᴰ.of_map f l m in d.0 (subst (λ (z : A). Memᴰ z l) (inj r.0 x (Memᴰ.tail r.1) (Memᴰ.head refl) r.2) r.1)),
  distinct_mapped f l (λ y z m n. inj y z (Memᴰ.tail m) (Memᴰ.tail n)) d.1,
)

-- exactly one member passes
pub count_one : {A : Type 0} (f : A → Bool) (l : List A) (x : A) → Distinct l → Memᴰ x l → f x ≡ true → ((y : A) → Memᴰ y l → f y ≡ true → y ≡ x) → count f l ≡ 1
count_one {A} f l x d m e only = same_length (filter f l) (x ∷ []) (distinct_filter f l d) (Memᴰ.not-nil, tt)
    (λ y k. let r = of_filter f l y k in Memᴰ.head (only y r.0 r.1))
    (λ y k. ⊎_elim (λ (q : y ≡ x). subst (λ (z : A). Memᴰ z (filter f l)) (sym q) (in_filter f l x m e)) (λ (n : Memᴰ y []). absurd (Memᴰ.not-nil n)) (Memᴰ.cases_cons k))

-- ---- the first of each class, where the test is equality on the members
module _ {A : Type 0} (same : A → A → Bool) (P : A → Type 0) (reflexive : (x : A) → P x → same x x ≡ true) (exact : (x y : A) → P x → P y → same x y ≡ true → x ≡ y) where
  of_firsts_from : (ps l : List A) (x : A) → Memᴰ x (firsts_from same ps l) → Memᴰ x l × ((p : A) → Memᴰ p ps → same p x ≡ false)
  unfolding firsts_from
  of_firsts_from ps [] x m = absurd (Memᴰ.not-nil m)
  of_firsts_from ps (r ∷ l) x m = go (any (λ p. same p r) ps) refl (λ k. of_firsts_from (r ∷ ps) l x k)
    where
      Kept : List A → List A → Type 0
      Kept qs k = Memᴰ x k × ((p : A) → Memᴰ p qs → same p x ≡ false)

      later : Kept (r ∷ ps) l → Kept ps (r ∷ l)
      later h = (Memᴰ.tail h.0, λ p k. h.1 p (Memᴰ.tail k))

      go : (b : Bool) → any (λ p. same p r) ps ≡ b → (Memᴰ x (firsts_from same (r ∷ ps) l) → Kept (r ∷ ps) l) → Kept ps (r ∷ l)
      go true e ih = later (ih (rw (e, firsts_from) at m))
      go false e ih = ⊎_elim (λ (q : x ≡ r). (Memᴰ.head q, λ p k. ap (same p) q ∙ any_no (λ z. same z r) ps p e k)) (λ (k : Memᴰ x (firsts_from same (r ∷ ps) l)). later (ih k)) (Memᴰ.cases_cons (rw (e, firsts_from) at m))

  in_firsts_from : (ps l : List A) → ((p : A) → Memᴰ p ps → P p) → ((y : A) → Memᴰ y l → P y) → (x : A) → Memᴰ x l → Memᴰ x ps ⊎ Memᴰ x (firsts_from same ps l)
  unfolding firsts_from
  in_firsts_from ps [] a b x m = absurd (Memᴰ.not-nil m)
  in_firsts_from ps (r ∷ l) a b x m = go (any (λ p. same p r) ps) refl (Memᴰ.cases_cons m) (λ k. in_firsts_from (r ∷ ps) l passed (λ y n. b y (Memᴰ.tail n)) x k)
    where
      passed : (p : A) → Memᴰ p (r ∷ ps) → P p
      passed p n = ⊎_elim (λ (e : p ≡ r). subst P (sym e) (b r (Memᴰ.head refl))) (λ (k : Memᴰ p ps). a p k) (Memᴰ.cases_cons n)

      Goal : Type 0
      Goal = Memᴰ x ps ⊎ Memᴰ x (firsts_from same ps (r ∷ l))

      before : any (λ p. same p r) ps ≡ true → x ≡ r → Memᴰ x ps
      before e q =
          let s = any_yes (λ p. same p r) ps e in
          subst (λ (z : A). Memᴰ z ps) (exact s.0 r (a s.0 s.1) (b r (Memᴰ.head refl)) s.2 ∙ sym q) s.1

      go : (c : Bool) → any (λ p. same p r) ps ≡ c → (x ≡ r) ⊎ Memᴰ x l → (Memᴰ x l → Memᴰ x (r ∷ ps) ⊎ Memᴰ x (firsts_from same (r ∷ ps) l)) → Goal
      go true e (inl q) ih = inl (before e q)
      go false e (inl q) ih = inr (rw (e, firsts_from) (Memᴰ.head q))
      go true e (inr k) ih = ⊎_elim (λ (i : Memᴰ x (r ∷ ps)). ⊎_elim (λ (q : x ≡ r). inl (before e q)) (λ (j : Memᴰ x ps). inl j) (Memᴰ.cases_cons i)) (λ (i : Memᴰ x (firsts_from same (r ∷ ps) l)). inr (rw (e, firsts_from) i)) (ih k)
      go false e (inr k) ih = ⊎_elim (λ (i : Memᴰ x (r ∷ ps)). ⊎_elim (λ (q : x ≡ r). inr (rw (e, firsts_from) (Memᴰ.head q))) (λ (j : Memᴰ x ps). inl j) (Memᴰ.cases_cons i)) (λ (i : Memᴰ x (firsts_from same (r ∷ ps) l)). inr (rw (e, firsts_from) (Memᴰ.tail i))) (ih k)

  firsts_from_distinct : (ps l : List A) → ((y : A) → Memᴰ y l → P y) → Distinct (firsts_from same ps l)
  unfolding firsts_from
  firsts_from_distinct ps [] b = tt
  firsts_from_distinct ps (r ∷ l) b = go (any (λ p. same p r) ps) refl (firsts_from_distinct (r ∷ ps) l (λ y m. b y (Memᴰ.tail m)))
    where
      new : Memᴰ r (firsts_from same (r ∷ ps) l) → ⊥
      new m = true≢false (sym (reflexive r (b r (Memᴰ.head refl))) ∙ (of_firsts_from (r ∷ ps) l r m).1 r (Memᴰ.head refl))

      go : (c : Bool) → any (λ p. same p r) ps ≡ c → Distinct (firsts_from same (r ∷ ps) l) → Distinct (firsts_from same ps (r ∷ l))
      go true e ih = rw (e, firsts_from) ih
      go false e ih = rw (e, firsts_from) (new, ih)

  module _ (l : List A) (b : (y : A) → Memᴰ y l → P y) where
    -- THE DIFFERENT ONES OF A LIST: its members, each once
    pub different_of : (x : A) → Memᴰ x (firsts same l) → Memᴰ x l
    unfolding firsts
    different_of x m = (of_firsts_from [] l x m).0

    pub of_different : (x : A) → Memᴰ x l → Memᴰ x (firsts same l)
    unfolding firsts
    of_different x m = ⊎_elim (λ (k : Memᴰ x []). absurd (Memᴰ.not-nil k)) (λ (k : Memᴰ x (firsts_from same [] l)). k) (in_firsts_from [] l (λ p k. absurd (Memᴰ.not-nil k)) b x m)

    pub different_distinct : Distinct (firsts same l)
    unfolding firsts
    different_distinct = firsts_from_distinct [] l b
