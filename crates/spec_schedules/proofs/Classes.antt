-- The first of each class in an ascending list of schedules: exactly those to which no smaller member is alike; every member is alike to one of
-- them, and to one only where alike is an equivalence.
use mathlib.Core.Path.{◌≡◌, refl, sym, ap, subst, ◌∙◌}
use mathlib.Core.Logic.{◌⊎◌, inl, inr, ⊎_elim}
use mathlib.Core.Bool.{Bool, true, false, true≢false}
use mathlib.Core.List.Memᴰ
use mathlib.Core.List.{List, [], ◌∷◌, Memᴰ}
use Prim.Native.Nat.{◌≤◌}
use native.Mathlib.Omega.{arith}
use lib.ListN.{length}
use Rattle.spec_schedules.specs.Lists.{any, filter}
use Rattle.spec_file.specs.Lists.{Ascends}
use Rattle.spec_schedules.specs.Order.{Schedule, less}
use Rattle.spec_schedules.specs.Classes.{firsts_from, firsts}
use Rattle.spec_schedules.proofs.Order.{less_irreflexive, less_asymmetric}
use Rattle.spec_schedules.proofs.Lists.{any_yes, any_no, in_filter, of_filter, ascends_filter, ascends_unique}

-- of two members of an ascending list, the same or one smaller
pub members_compared : (l : List Schedule) → Ascends less l → (x y : Schedule) → Memᴰ x l → Memᴰ y l → (x ≡ y) ⊎ ((less x y ≡ true) ⊎ (less y x ≡ true))
members_compared [] a x y m n = absurd (Memᴰ.not-nil m)
members_compared (r ∷ l) a x y m n = go (Memᴰ.cases_cons m) (Memᴰ.cases_cons n) (λ j k. members_compared l a.1 x y j k)
  where
    go : (x ≡ r) ⊎ Memᴰ x l → (y ≡ r) ⊎ Memᴰ y l → (Memᴰ x l → Memᴰ y l → (x ≡ y) ⊎ ((less x y ≡ true) ⊎ (less y x ≡ true))) → (x ≡ y) ⊎ ((less x y ≡ true) ⊎ (less y x ≡ true))
    go (inl p) (inl q) ih = inl (p ∙ sym q)
    go (inl p) (inr k) ih = inr (inl (ap (λ (z : Schedule). less z y) p ∙ a.0 y k))
    go (inr j) (inl q) ih = inr (inr (ap (λ (z : Schedule). less z x) q ∙ a.0 x j))
    go (inr j) (inr k) ih = ih j k

-- no member is smaller than the first
none_below : (r : Schedule) (l : List Schedule) → Ascends less (r ∷ l) → (y : Schedule) → Memᴰ y (r ∷ l) → less y r ≡ false
none_below r l a y m = ⊎_elim (λ (e : y ≡ r). ap (λ (z : Schedule). less z r) e ∙ less_irreflexive r) (λ (k : Memᴰ y l). less_asymmetric r y (a.0 y k)) (Memᴰ.cases_cons m)

module _ (like : Schedule → Schedule → Bool) where
  -- no smaller member is alike to x
  abbrev pub Unmatched : List Schedule → Schedule → Type 0
  Unmatched l x = (y : Schedule) → Memᴰ y l → less y x ≡ true → like y x ≡ false

  -- none of the members passed is alike to x
  abbrev Apart : List Schedule → Schedule → Type 0
  Apart ps x = (p : Schedule) → Memᴰ p ps → like p x ≡ false

  apart_more : (r : Schedule) (ps : List Schedule) (x : Schedule) → like r x ≡ false → Apart ps x → Apart (r ∷ ps) x
  apart_more r ps x e h p m = ⊎_elim (λ (i : p ≡ r). ap (λ (z : Schedule). like z x) i ∙ e) (λ (k : Memᴰ p ps). h p k) (Memᴰ.cases_cons m)

  unmatched_head : (r : Schedule) (l : List Schedule) → Ascends less (r ∷ l) → Unmatched (r ∷ l) r
  unmatched_head r l a y m e = absurd (true≢false (sym e ∙ none_below r l a y m))

  unmatched_more : (r : Schedule) (l : List Schedule) (x : Schedule) → like r x ≡ false → Unmatched l x → Unmatched (r ∷ l) x
  unmatched_more r l x e h y m q = ⊎_elim (λ (i : y ≡ r). ap (λ (z : Schedule). like z x) i ∙ e) (λ (k : Memᴰ y l). h y k q) (Memᴰ.cases_cons m)

  abbrev Kept : List Schedule → List Schedule → Schedule → Type 0
  Kept ps l x = Memᴰ x l × Apart ps x × Unmatched l x

  of_firsts_from : (ps l : List Schedule) → Ascends less l → (x : Schedule) → Memᴰ x (firsts_from like ps l) → Kept ps l x
  unfolding firsts_from
  of_firsts_from ps [] a x m = absurd (Memᴰ.not-nil m)
  of_firsts_from ps (r ∷ l) a x m = go (any (λ p. like p r) ps) refl (λ k. of_firsts_from (r ∷ ps) l a.1 x k)
    where
      later : Kept (r ∷ ps) l x → Kept ps (r ∷ l) x
      later h = (Memᴰ.tail h.0, (λ p k. h.1 p (Memᴰ.tail k)), unmatched_more r l x (h.1 r (Memᴰ.head refl)) h.2)

      here : any (λ p. like p r) ps ≡ false → x ≡ r → Kept ps (r ∷ l) x
      here e q = subst (Kept ps (r ∷ l)) (sym q) (Memᴰ.head refl, (λ p k. any_no (λ p. like p r) ps p e k), unmatched_head r l a)

      go : (b : Bool) → any (λ p. like p r) ps ≡ b → (Memᴰ x (firsts_from like (r ∷ ps) l) → Kept (r ∷ ps) l x) → Kept ps (r ∷ l) x
      go true e ih = later (ih (rw (e, firsts_from) at m))
      go false e ih = ⊎_elim (λ (q : x ≡ r). here e q) (λ (k : Memᴰ x (firsts_from like (r ∷ ps) l)). later (ih k)) (Memᴰ.cases_cons (rw (e, firsts_from) at m))

  in_firsts_from : (ps l : List Schedule) → Ascends less l → (x : Schedule) → Kept ps l x → Memᴰ x (firsts_from like ps l)
  unfolding firsts_from
  in_firsts_from ps [] a x h = h.0
  in_firsts_from ps (r ∷ l) a x h = go (any (λ p. like p r) ps) refl (Memᴰ.cases_cons h.0) (λ k. in_firsts_from (r ∷ ps) l a.1 x (later k))
    where
      later : Memᴰ x l → Kept (r ∷ ps) l x
      later k = (k, apart_more r ps x (h.2 r (Memᴰ.head refl) (a.0 x k)) h.1, λ y m q. h.2 y (Memᴰ.tail m) q)

      go : (b : Bool) → any (λ p. like p r) ps ≡ b → (x ≡ r) ⊎ Memᴰ x l → (Memᴰ x l → Memᴰ x (firsts_from like (r ∷ ps) l)) → Memᴰ x (firsts_from like ps (r ∷ l))
      go true e (inl q) ih = let s = any_yes (λ p. like p r) ps e in absurd (true≢false (sym s.2 ∙ ap (like s.0) (sym q) ∙ h.1 s.0 s.1))
      go true e (inr k) ih = rw (e, firsts_from) (ih k)
      go false e (inl q) ih = rw (e, firsts_from) (Memᴰ.head q)
      go false e (inr k) ih = rw (e, firsts_from) (Memᴰ.tail (ih k))

  firsts_from_ascend : (ps l : List Schedule) → Ascends less l → Ascends less (firsts_from like ps l)
  unfolding firsts_from
  firsts_from_ascend ps [] a = tt
  firsts_from_ascend ps (r ∷ l) a = go (any (λ p. like p r) ps) refl (firsts_from_ascend (r ∷ ps) l a.1)
    where
      go : (b : Bool) → any (λ p. like p r) ps ≡ b → Ascends less (firsts_from like (r ∷ ps) l) → Ascends less (firsts_from like ps (r ∷ l))
      go true e ih = rw (e, firsts_from) ih
      go false e ih = rw (e, firsts_from) ((λ y m. a.0 y (of_firsts_from (r ∷ ps) l a.1 y m).0), ih)

  -- the firsts of a list are not more than its members
  firsts_from_length : (ps l : List Schedule) → length (firsts_from like ps l) ≤ length l
  unfolding firsts_from
  firsts_from_length ps [] = omega arith
  firsts_from_length ps (r ∷ l) = go (any (λ p. like p r) ps) refl (firsts_from_length (r ∷ ps) l)
    where
      go : (b : Bool) → any (λ p. like p r) ps ≡ b → length (firsts_from like (r ∷ ps) l) ≤ length l → length (firsts_from like ps (r ∷ l)) ≤ length (r ∷ l)
      go true e ih = rw (e, firsts_from) (omega arith)
      go false e ih = rw (e, firsts_from) (omega arith)

  pub firsts_length : (l : List Schedule) → length (firsts like l) ≤ length l
  unfolding firsts
  firsts_length l = firsts_from_length [] l

  module _ (l : List Schedule) (asc : Ascends less l) where
    -- THE KEPT ONES are the members to which no smaller one is alike
    pub of_firsts : (x : Schedule) → Memᴰ x (firsts like l) → Memᴰ x l × Unmatched l x
    unfolding firsts
    of_firsts x m = let r = of_firsts_from [] l asc x m in (r.0, r.2)

    pub in_firsts : (x : Schedule) → Memᴰ x l → Unmatched l x → Memᴰ x (firsts like l)
    unfolding firsts
    in_firsts x m h = in_firsts_from [] l asc x (m, (λ p k. absurd (Memᴰ.not-nil k)), h)

    -- the firsts of an ascending list ascend
    pub firsts_ascend : Ascends less (firsts like l)
    unfolding firsts
    firsts_ascend = firsts_from_ascend [] l asc

    -- a test that is exact on the members keeps the same ones
    pub firsts_filter : (listed : Schedule → Bool) → ((x : Schedule) → Memᴰ x l → listed x ≡ true → Unmatched l x) →
        ((x : Schedule) → Memᴰ x l → listed x ≡ false → (y : Schedule) × Memᴰ y l × (less y x ≡ true) × (like y x ≡ true)) → firsts like l ≡ filter listed l
    firsts_filter listed good bad =
        ascends_unique less less_irreflexive less_asymmetric (firsts like l) (filter listed l) firsts_ascend (ascends_filter less listed l asc)
        (λ x m. let r = of_firsts x m in in_filter listed l x r.0 (passes x r.0 r.1 (listed x) refl))
        (λ x m. let r = of_filter listed l x m in in_firsts x r.0 (good x r.0 r.1))
      where
        passes : (x : Schedule) → Memᴰ x l → Unmatched l x → (b : Bool) → listed x ≡ b → listed x ≡ true
        passes x m h true e = e
        passes x m h false e = let r = bad x m e in absurd (true≢false (sym r.3 ∙ h r.0 r.1 r.2))

  -- the smallest member alike to x
  smallest : (l : List Schedule) → Ascends less l → (x : Schedule) → like x x ≡ true → Memᴰ x l →
      (y : Schedule) × Memᴰ y l × (like y x ≡ true) × ((z : Schedule) → Memᴰ z l → less z y ≡ true → like z x ≡ false)
  smallest [] a x rf m = absurd (Memᴰ.not-nil m)
  smallest (r ∷ l) a x rf m = go (like r x) refl (Memᴰ.cases_cons m) (λ k. smallest l a.1 x rf k)
    where
      Smallest : List Schedule → Type 0
      Smallest k = (y : Schedule) × Memᴰ y k × (like y x ≡ true) × ((z : Schedule) → Memᴰ z k → less z y ≡ true → like z x ≡ false)

      go : (b : Bool) → like r x ≡ b → (x ≡ r) ⊎ Memᴰ x l → (Memᴰ x l → Smallest l) → Smallest (r ∷ l)
      go true e d ih = (r, Memᴰ.head refl, e, λ z n q. absurd (true≢false (sym q ∙ none_below r l a z n)))
      go false e (inl q) ih = absurd (true≢false (sym rf ∙ ap (λ (z : Schedule). like z x) q ∙ e))
      go false e (inr k) ih =
          let s = ih k in
          (s.0, Memᴰ.tail s.1, s.2, λ z n q. ⊎_elim (λ (i : z ≡ r). ap (λ (w : Schedule). like w x) i ∙ e) (λ (j : Memᴰ z l). s.3 z j q) (Memᴰ.cases_cons n))

  -- of the members: alike is reflexive and transitive
  module _ (l : List Schedule) (asc : Ascends less l) (reflexive : (x : Schedule) → Memᴰ x l → like x x ≡ true)
      (transitive : (x y z : Schedule) → Memᴰ x l → Memᴰ y l → Memᴰ z l → like x y ≡ true → like y z ≡ true → like x z ≡ true) where
    -- EVERY MEMBER is alike to a kept one
    pub covered : (x : Schedule) → Memᴰ x l → (y : Schedule) × Memᴰ y (firsts like l) × (like y x ≡ true)
    covered x m =
        let s = smallest l asc x (reflexive x m) m in
        (s.0, in_firsts l asc s.0 s.1 (λ z n q. apart z s.0 n s.1 s.2 (s.3 z n q) (like z s.0) refl), s.2)
      where
        apart : (z y : Schedule) → Memᴰ z l → Memᴰ y l → like y x ≡ true → like z x ≡ false → (b : Bool) → like z y ≡ b → like z y ≡ false
        apart z y n k e f true q = absurd (true≢false (sym (transitive z y x n k m q e) ∙ f))
        apart z y n k e f false q = q

    -- where alike is symmetric too, a member is alike to one of the firsts only
    pub covered_once : ((x y : Schedule) → Memᴰ x l → Memᴰ y l → like x y ≡ true → like y x ≡ true) →
        (x y z : Schedule) → Memᴰ x l → Memᴰ y (firsts like l) → Memᴰ z (firsts like l) → like y x ≡ true → like z x ≡ true → y ≡ z
    covered_once symmetric x y z k m n e f = go (members_compared l asc y z p.0 q.0)
      where
        p : Memᴰ y l × Unmatched l y
        p = of_firsts l asc y m

        q : Memᴰ z l × Unmatched l z
        q = of_firsts l asc z n

        go : (y ≡ z) ⊎ ((less y z ≡ true) ⊎ (less z y ≡ true)) → y ≡ z
        go (inl i) = i
        go (inr (inl i)) = absurd (true≢false (sym (transitive y x z p.0 k q.0 e (symmetric z x q.0 k f)) ∙ q.1 y p.0 i))
        go (inr (inr i)) = absurd (true≢false (sym (transitive z x y q.0 k p.0 f (symmetric y x p.0 k e)) ∙ p.1 z q.0 i))
