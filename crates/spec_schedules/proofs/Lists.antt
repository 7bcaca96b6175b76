-- Members of lists, what tests over lists say of them, and ascending lists.
use mathlib.Core.Path.{◌≡◌, refl, sym, ap, ap₂, ◌∙◌}
use mathlib.Core.Logic.{◌⊎◌, inl, inr, ⊎_elim}
use mathlib.Core.Bool.{Bool, true, false, true≢false, false≢true, ◌&&◌, ◌||◌}
use mathlib.Core.Option.{some}
use mathlib.Core.List.Memᴰ
use mathlib.Core.List.{List, [], ◌∷◌, ◌++◌, Memᴰ}
use Prim.Native.Nat.{ℕ, zero, suc, ◌+◌, ◌<◌, ◌≤◌}
use native.Mathlib.Omega.{arith}
use native.Mathlib.Nat.{eq-or-lt_of_le}
use lib.Dec.{ltb}
use lib.ListN.{length}
use borrow.Author.Tests.{lt-ltb}
use Rattle.spec_schedules.specs.Lists.{range, both, any, all, filter, find}
use Rattle.spec_file.specs.Lists.{Ascends}

-- the numbers from one on
pub range_suc : (a n : ℕ) → range a (suc n) ≡ a ∷ range (suc a) n
unfolding range
range_suc a n = refl

pub in_range_lem : (a n k : ℕ) → a ≤ k → k < a + n → Memᴰ k (range a n)
unfolding range
in_range_lem a zero k l h = absurd (omega arith)
in_range_lem a (suc n) k l h = ⊎_elim (λ (e : a ≡ k). Memᴰ.head (sym e)) (λ (g : suc a ≤ k). Memᴰ.tail (in_range_lem (suc a) n k g (omega arith))) (eq-or-lt_of_le l)

pub of_range : (a n k : ℕ) → Memᴰ k (range a n) → (a ≤ k) × (k < a + n)
unfolding range
of_range a zero k m = absurd (Memᴰ.not-nil m)
of_range a (suc n) k m = ⊎_elim (λ (e : k ≡ a). (omega arith, omega arith)) (λ (j : Memᴰ k (range (suc a) n)). let r = of_range (suc a) n k j in (omega (arith, r.0), omega (arith, r.1))) (Memᴰ.cases_cons m)

pub range_ascends : (a n : ℕ) → Ascends ltb (range a n)
unfolding range
range_ascends a zero = tt
range_ascends a (suc n) = ((λ k m. lt-ltb a k (of_range (suc a) n k m).0), range_ascends (suc a) n)

-- two tests
pub true_both : (b : Bool) → both true b ≡ b
unfolding both
true_both b = refl

pub false_both : (b : Bool) → both false b ≡ false
unfolding both
false_both b = refl

pub both_left : (a b : Bool) → both a b ≡ true → a ≡ true
unfolding both
both_left true b e = refl
both_left false b e = absurd (false≢true e)

pub both_right : (a b : Bool) → both a b ≡ true → b ≡ true
unfolding both
both_right true b e = e
both_right false b e = absurd (false≢true e)

pub both_false : (a : Bool) → both a false ≡ false
unfolding both
both_false true = refl
both_false false = refl

-- tests over a list
pub any_yes : {A : Type 0} (f : A → Bool) (l : List A) → any f l ≡ true → (x : A) × Memᴰ x l × (f x ≡ true)
unfolding any
any_yes f [] e = absurd (false≢true e)
any_yes {A} f (x ∷ xs) e = go (f x) refl (λ k. any_yes f xs k)
  where
    go : (b : Bool) → f x ≡ b → (any f xs ≡ true → (y : A) × Memᴰ y xs × (f y ≡ true)) → (y : A) × Memᴰ y (x ∷ xs) × (f y ≡ true)
    go true q ih = (x, Memᴰ.head refl, q)
    go false q ih = let r = ih (rw (q, any) at e) in (r.0, Memᴰ.tail r.1, r.2)

pub any_of : {A : Type 0} (f : A → Bool) (l : List A) (x : A) → Memᴰ x l → f x ≡ true → any f l ≡ true
unfolding any
any_of f [] x m e = absurd (Memᴰ.not-nil m)
any_of f (y ∷ ys) x m e = go (f y) refl (Memᴰ.cases_cons m) (λ k. any_of f ys x k e)
  where
    go : (b : Bool) → f y ≡ b → (x ≡ y) ⊎ Memᴰ x ys → (Memᴰ x ys → any f ys ≡ true) → any f (y ∷ ys) ≡ true
    go true q d ih = rw (q, any)
    go false q (inl i) ih = absurd (false≢true (sym q ∙ ap f (sym i) ∙ e))
    go false q (inr k) ih = rw (q, any) (ih k)

pub any_no : {A : Type 0} (f : A → Bool) (l : List A) (x : A) → any f l ≡ false → Memᴰ x l → f x ≡ false
any_no f l x e m = go (f x) refl
  where
    go : (b : Bool) → f x ≡ b → f x ≡ false
    go true q = absurd (true≢false (sym (any_of f l x m q) ∙ e))
    go false q = q

pub all_at : {A : Type 0} (f : A → Bool) (l : List A) (x : A) → all f l ≡ true → Memᴰ x l → f x ≡ true
unfolding all
all_at f [] x e m = absurd (Memᴰ.not-nil m)
all_at f (y ∷ ys) x e m = go (f y) refl (Memᴰ.cases_cons m) (λ q k. all_at f ys x q k)
  where
    go : (b : Bool) → f y ≡ b → (x ≡ y) ⊎ Memᴰ x ys → (all f ys ≡ true → Memᴰ x ys → f x ≡ true) → f x ≡ true
    go true q (inl i) ih = ap f i ∙ q
    go true q (inr k) ih = ih (rw (q, all) at e) k
    go false q d ih = absurd (false≢true (rw (q, all) at e))

pub all_of : {A : Type 0} (f : A → Bool) (l : List A) → ((x : A) → Memᴰ x l → f x ≡ true) → all f l ≡ true
unfolding all
all_of f [] h = refl
all_of f (x ∷ xs) h = rw (h x (Memᴰ.head refl), all) (all_of f xs (λ y m. h y (Memᴰ.tail m)))

-- where not every member passes, one is in the way
pub all_not : {A : Type 0} (f : A → Bool) (l : List A) → all f l ≡ false → (x : A) × Memᴰ x l × (f x ≡ false)
unfolding all
all_not f [] e = absurd (true≢false e)
all_not {A} f (x ∷ xs) e = go (f x) refl (λ k. all_not f xs k)
  where
    go : (b : Bool) → f x ≡ b → (all f xs ≡ false → (y : A) × Memᴰ y xs × (f y ≡ false)) → (y : A) × Memᴰ y (x ∷ xs) × (f y ≡ false)
    go true q ih = let r = ih (rw (q, all) at e) in (r.0, Memᴰ.tail r.1, r.2)
    go false q ih = (x, Memᴰ.head refl, q)

-- one turn of `all`, of `filter` and of `find`
pub all_yes : {A : Type 0} (f : A → Bool) (x : A) (l : List A) → f x ≡ true → all f (x ∷ l) ≡ all f l
unfolding all
all_yes f x l e = rw (e, all)

pub all_no : {A : Type 0} (f : A → Bool) (x : A) (l : List A) → f x ≡ false → all f (x ∷ l) ≡ false
unfolding all
all_no f x l e = rw (e, all)

pub filter_yes : {A : Type 0} (f : A → Bool) (x : A) (l : List A) → f x ≡ true → filter f (x ∷ l) ≡ x ∷ filter f l
unfolding filter
filter_yes f x l e = rw (e, filter)

pub filter_no : {A : Type 0} (f : A → Bool) (x : A) (l : List A) → f x ≡ false → filter f (x ∷ l) ≡ filter f l
unfolding filter
filter_no f x l e = rw (e, filter)

pub find_yes : {A : Type 0} (f : A → Bool) (x : A) (l : List A) → f x ≡ true → find f (x ∷ l) ≡ some x
unfolding find
find_yes f x l e = rw (e, find)

pub find_no : {A : Type 0} (f : A → Bool) (x : A) (l : List A) → f x ≡ false → find f (x ∷ l) ≡ find f l
unfolding find
find_no f x l e = rw (e, find)

-- the members kept are those that pass
pub in_filter : {A : Type 0} (f : A → Bool) (l : List A) (x : A) → Memᴰ x l → f x ≡ true → Memᴰ x (filter f l)
in_filter f [] x m e = absurd (Memᴰ.not-nil m)
in_filter f (y ∷ ys) x m e = go (f y) refl (Memᴰ.cases_cons m) (λ k. in_filter f ys x k e)
  where
    go : (b : Bool) → f y ≡ b → (x ≡ y) ⊎ Memᴰ x ys → (Memᴰ x ys → Memᴰ x (filter f ys)) → Memᴰ x (filter f (y ∷ ys))
    go true q (inl i) ih = rw (filter_yes f y ys q) (Memᴰ.head i)
    go true q (inr k) ih = rw (filter_yes f y ys q) (Memᴰ.tail (ih k))
    go false q (inl i) ih = absurd (false≢true (sym q ∙ ap f (sym i) ∙ e))
    go false q (inr k) ih = rw (filter_no f y ys q) (ih k)

pub of_filter : {A : Type 0} (f : A → Bool) (l : List A) (x : A) → Memᴰ x (filter f l) → Memᴰ x l × (f x ≡ true)
unfolding filter
of_filter f [] x m = absurd (Memᴰ.not-nil m)
of_filter {A} f (y ∷ ys) x m = go (f y) refl (λ k. of_filter f ys x k)
  where
    go : (b : Bool) → f y ≡ b → (Memᴰ x (filter f ys) → Memᴰ x ys × (f x ≡ true)) → Memᴰ x (y ∷ ys) × (f x ≡ true)
    go true q ih = ⊎_elim (λ (i : x ≡ y). (Memᴰ.head i, ap f i ∙ q)) (λ (k : Memᴰ x (filter f ys)). let r = ih k in (Memᴰ.tail r.0, r.1)) (Memᴰ.cases_cons (rw (q, filter) at m))
    go false q ih = let r = ih (rw (q, filter) at m) in (Memᴰ.tail r.0, r.1)

-- ascending lists
module _ {A : Type 0} (less : A → A → Bool) where
  pub ascends_append : (xs ys : List A) → Ascends less xs → Ascends less ys → ((x y : A) → Memᴰ x xs → Memᴰ y ys → less x y ≡ true) → Ascends less (xs ++ ys)
  ascends_append [] ys a b c = b
  ascends_append (x ∷ xs) ys a b c = (
    (λ y m. ⊎_elim (λ (k : Memᴰ y xs). a.0 y k) (λ (k : Memᴰ y ys). c x y (Memᴰ.head refl) k) (Memᴰ.append_cases xs m)),
    ascends_append xs ys a.1 b (λ z y k n. c z y (Memᴰ.tail k) n),
  )

  pub ascends_filter : (f : A → Bool) (l : List A) → Ascends less l → Ascends less (filter f l)
  unfolding filter
  ascends_filter f [] a = tt
  ascends_filter f (x ∷ xs) a = go (f x) refl (ascends_filter f xs a.1)
    where
      go : (b : Bool) → f x ≡ b → Ascends less (filter f xs) → Ascends less (filter f (x ∷ xs))
      go true e ih = rw (e, filter) ((λ y m. a.0 y (of_filter f xs y m).0), ih)
      go false e ih = rw (e, filter) ih

  module _ (irreflexive : (x : A) → less x x ≡ false) (asymmetric : (x y : A) → less x y ≡ true → less y x ≡ false) where
    -- two ascending lists with the same members are equal
    pub ascends_unique : (xs ys : List A) → Ascends less xs → Ascends less ys → ((x : A) → Memᴰ x xs → Memᴰ x ys) → ((x : A) → Memᴰ x ys → Memᴰ x xs) → xs ≡ ys
    ascends_unique [] [] a b f g = refl
    ascends_unique [] (y ∷ ys) a b f g = absurd (Memᴰ.not-nil (g y (Memᴰ.head refl)))
    ascends_unique (x ∷ xs) [] a b f g = absurd (Memᴰ.not-nil (f x (Memᴰ.head refl)))
    ascends_unique (x ∷ xs) (y ∷ ys) a b f g =
        ap₂ {C = List A} (λ z zs. z ∷ zs) same
        (ascends_unique xs ys a.1 b.1 (λ z m. rest z ys b.0 same (a.0 z m) (f z (Memᴰ.tail m))) (λ z m. rest z xs a.0 (sym same) (b.0 z m) (g z (Memᴰ.tail m))))
      where
        same : x ≡ y
        same = go (Memᴰ.cases_cons (f x (Memᴰ.head refl))) (Memᴰ.cases_cons (g y (Memᴰ.head refl)))
          where
            go : (x ≡ y) ⊎ Memᴰ x ys → (y ≡ x) ⊎ Memᴰ y xs → x ≡ y
            go (inl e) q = e
            go (inr m) (inl e) = sym e
            go (inr m) (inr n) = absurd (true≢false (sym (b.0 x m) ∙ asymmetric x y (a.0 y n)))

        rest : {v w : A} (z : A) (zs : List A) → ((k : A) → Memᴰ k zs → less w k ≡ true) → v ≡ w → less v z ≡ true → Memᴰ z (w ∷ zs) → Memᴰ z zs
        rest {v} {w} z zs h e q m = ⊎_elim (λ (i : z ≡ w). absurd (true≢false (sym q ∙ ap₂ less e i ∙ irreflexive w))) (λ (k : Memᴰ z zs). k) (Memᴰ.cases_cons m)

    -- an ascending list whose members another one has is no longer than that one, and the same where it is as long
    pub ascends_within : (xs ys : List A) → Ascends less xs → Ascends less ys → ((x : A) → Memᴰ x xs → Memᴰ x ys) → (length xs ≤ length ys) × (length ys ≤ length xs → xs ≡ ys)
    ascends_within [] [] a b f = (omega arith, λ h. refl)
    ascends_within [] (y ∷ ys) a b f = (omega arith, λ h. absurd (omega arith))
    ascends_within (x ∷ xs) [] a b f = absurd (Memᴰ.not-nil (f x (Memᴰ.head refl)))
    ascends_within (x ∷ xs) (y ∷ ys) a b f = go (Memᴰ.cases_cons (f x (Memᴰ.head refl))) (λ g. ascends_within xs ys a.1 b.1 g) (λ g. ascends_within (x ∷ xs) ys a b.1 g)
      where
        behind : (z : A) → (z ≡ y → ⊥) → Memᴰ z (y ∷ ys) → Memᴰ z ys
        behind z ne m = ⊎_elim (λ (e : z ≡ y). absurd (ne e)) (λ (k : Memᴰ z ys). k) (Memᴰ.cases_cons m)

        later : Memᴰ x ys → (z : A) → Memᴰ z (x ∷ xs) → z ≡ y → ⊥
        later m z k e = ⊎_elim (λ (q : z ≡ x). true≢false (sym (b.0 x m) ∙ ap (less y) (sym q ∙ e) ∙ irreflexive y))
            (λ (n : Memᴰ z xs). true≢false (sym (a.0 z n) ∙ ap (less x) e ∙ asymmetric y x (b.0 x m))) (Memᴰ.cases_cons k)

        go : (x ≡ y) ⊎ Memᴰ x ys → (((z : A) → Memᴰ z xs → Memᴰ z ys) → (length xs ≤ length ys) × (length ys ≤ length xs → xs ≡ ys)) →
            (((z : A) → Memᴰ z (x ∷ xs) → Memᴰ z ys) → (length (x ∷ xs) ≤ length ys) × (length ys ≤ length (x ∷ xs) → x ∷ xs ≡ ys)) →
            (length (x ∷ xs) ≤ length (y ∷ ys)) × (length (y ∷ ys) ≤ length (x ∷ xs) → ◌≡◌ {A = List A} (x ∷ xs) (y ∷ ys))
        go (inl e) both_rest rest =
            let r = both_rest (λ z m. behind z (λ q. true≢false (sym (a.0 z m) ∙ ap (less x) (q ∙ sym e) ∙ irreflexive x)) (f z (Memᴰ.tail m))) in
            (omega (arith, r.0), λ h. ap₂ {C = List A} (λ z zs. z ∷ zs) e (r.1 (omega arith)))
        go (inr m) both_rest rest = let r = rest (λ z k. behind z (later m z k) (f z k)) in (omega (arith, r.0), λ h. absurd (omega (arith, r.0, h)))

-- a range has as many numbers as it says
pub range_length : (a n : ℕ) → length (range a n) ≡ n
unfolding range
range_length a zero = refl
range_length a (suc n) = ap suc (range_length (suc a) n)

pub all_cons : {A : Type 0} (f : A → Bool) (x : A) (xs : List A) → all f (x ∷ xs) ≡ (f x && all f xs)
unfolding all
all_cons f x xs = go (f x) refl
  where
    go : (b : Bool) → f x ≡ b → all f (x ∷ xs) ≡ (f x && all f xs)
    go true q = rw (q, all)
    go false q = rw (q, all)

pub any_cons : {A : Type 0} (f : A → Bool) (x : A) (xs : List A) → any f (x ∷ xs) ≡ (f x || any f xs)
unfolding any
any_cons f x xs = go (f x) refl
  where
    go : (b : Bool) → f x ≡ b → any f (x ∷ xs) ≡ (f x || any f xs)
    go true q = rw (q, any)
    go false q = rw (q, any)
