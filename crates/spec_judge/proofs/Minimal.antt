-- In a finite list, a decided relation without a cycle has a minimal member. No counting: for every z, either nothing of the list stands
-- before z, or some minimal member has a way to z.
use mathlib.Core.Path.{◌≡◌, refl, subst}
use mathlib.Core.Logic.{◌⊎◌, inl, inr, ⊎_elim}
use mathlib.Core.List.Memᴰ
use mathlib.Core.List.{List, [], ◌∷◌, Memᴰ}
use Rattle.spec_judge.specs.Consistent.{Way, one, more, Acyclic}

module _ {A : Type 0} (R : A → A → Type 0) where
  join : {x y z : A} → Way R x y → Way R y z → Way R x z
  join u (one e) = more u e
  join u (more w e) = more (join u w) e

  -- nothing of the list stands before m
  abbrev pub First : A → List A → Type 0
  First m xs = (y : A) → Memᴰ y xs → R y m → ⊥

  abbrev Below : A → List A → Type 0
  Below z xs = (m : A) × Memᴰ m xs × First m xs × Way R m z

  first_cons : (m x : A) (xs : List A) → (R x m → ⊥) → First m xs → First m (x ∷ xs)
  first_cons m x xs n l y k r = ⊎_elim (λ (q : y ≡ x). n (subst (λ (z : A). R z m) q r)) (λ (j : Memᴰ y xs). l y j r) (Memᴰ.cases_cons k)

  module _ (decide : (x y : A) → Dec (R x y)) (acyclic : Acyclic R) where
    -- the list grows by an x that stands before z
    grow : (x z : A) (xs : List A) → Way R x z → First x xs ⊎ Below x xs → Below z (x ∷ xs)
    grow x z xs w (inl l) = (x, Memᴰ.head refl, first_cons x x xs (λ r. acyclic x (one r)) l, w)
    grow x z xs w (inr b) = (b.0, Memᴰ.tail b.1, first_cons b.0 x xs (λ r. acyclic x (join (one r) b.3)) b.2, join b.3 w)

    below : (xs : List A) (z : A) → First z xs ⊎ Below z xs
    below [] z = inl (λ y k. absurd (Memᴰ.not-nil k))
    below (x ∷ xs) z = go (below xs z) (below xs x)
      where
        go : First z xs ⊎ Below z xs → First x xs ⊎ Below x xs → First z (x ∷ xs) ⊎ Below z (x ∷ xs)
        go (inl l) d = test (decide x z)
          where
            test : Dec (R x z) → First z (x ∷ xs) ⊎ Below z (x ∷ xs)
            test (yes r) = inr (grow x z xs (one r) d)
            test (no n) = inl (first_cons z x xs n l)
        go (inr b) d = test (decide x b.0)
          where
            test : Dec (R x b.0) → First z (x ∷ xs) ⊎ Below z (x ∷ xs)
            test (yes r) = inr (grow x z xs (join (one r) b.3) d)
            test (no n) = inr (b.0, Memᴰ.tail b.1, first_cons b.0 x xs n b.2, b.3)

    pub minimal : (xs : List A) (x : A) → Memᴰ x xs → (m : A) × Memᴰ m xs × First m xs
    minimal xs x k = go (below xs x)
      where
        go : First x xs ⊎ Below x xs → (m : A) × Memᴰ m xs × First m xs
        go (inl l) = (x, k, l)
        go (inr b) = (b.0, b.1, b.2)
