-- The order of schedules is strict and total.
use mathlib.Core.Path.{◌≡◌, refl, sym, ap, subst, ◌∙◌}
use mathlib.Core.Logic.{◌⊎◌, inl, inr}
use mathlib.Core.Bool.{Bool, true, false, false≢true}
use mathlib.Core.List.{[], ◌∷◌, ◌++◌}
use Prim.Native.Nat.{ℕ, zero, suc, ◌<◌, ◌≤◌}
use native.Mathlib.Omega.{arith}
use lib.Dec.{ltb}
use lib.ListN.{length, take}
use borrow.Author.Tests.{eq-eqb, ne_eqb, ltb-true, ltb-false, lt-ltb, le-ltb}
use Rattle.spec_schedules.specs.Order.{Schedule, less}

-- how two schedules with a first byte each compare
pub less_front : (t : ℕ) (a b : Schedule) → less (t ∷ a) (t ∷ b) ≡ less a b
unfolding less
less_front t a b = rw (eq-eqb t t refl, less)

pub less_heads : (t u : ℕ) (a b : Schedule) → t < u → less (t ∷ a) (u ∷ b) ≡ true
unfolding less
less_heads t u a b h = rw (ne_eqb t u (omega arith), less) (lt-ltb t u h)

pub more_heads : (t u : ℕ) (a b : Schedule) → u < t → less (t ∷ a) (u ∷ b) ≡ false
unfolding less
more_heads t u a b h = rw (ne_eqb t u (omega arith), less) (le-ltb t u (omega arith))

pub nil_less : (x : ℕ) (a : Schedule) → less [] (x ∷ a) ≡ true
unfolding less
nil_less x a = refl

pub less_nil : (a : Schedule) → less a [] ≡ false
unfolding less
less_nil [] = refl
less_nil (x ∷ a) = refl

-- behind a common beginning
pub less_behind : (v a b : Schedule) → less (v ++ a) (v ++ b) ≡ less a b
less_behind [] a b = refl
less_behind (t ∷ v) a b = less_front t (v ++ a) (v ++ b) ∙ less_behind v a b

-- of two different first bytes one is smaller
pub data Compared (x y : ℕ) : Type 0 where
  below : x < y → Compared x y
  same : x ≡ y → Compared x y
  above : y < x → Compared x y

pub compared : (x y : ℕ) → Compared x y
compared x y = go (ltb x y) refl (ltb y x) refl
  where
    go : (b : Bool) → ltb x y ≡ b → (c : Bool) → ltb y x ≡ c → Compared x y
    go true e c q = below (ltb-true x y e)
    go false e true q = above (ltb-true y x q)
    go false e false q = same (omega (arith, ltb-false x y e, ltb-false y x q))

-- compared with so many bytes, no more of the first tell
pub less_cut : (n : ℕ) (a b : Schedule) → length b ≤ n → less (take n a) b ≡ less a b
less_cut n a [] h = less_nil (take n a) ∙ sym (less_nil a)
less_cut zero a (y ∷ b) h = absurd (omega arith)
less_cut (suc n) [] (y ∷ b) h = refl
less_cut (suc n) (x ∷ a) (y ∷ b) h = go (compared x y) (less_cut n a b (omega (arith, h)))
  where
    go : Compared x y → less (take n a) b ≡ less a b → less (x ∷ take n a) (y ∷ b) ≡ less (x ∷ a) (y ∷ b)
    go (below k) ih = less_heads x y (take n a) b k ∙ sym (less_heads x y a b k)
    go (above k) ih = more_heads x y (take n a) b k ∙ sym (more_heads x y a b k)
    go (same k) ih = subst (λ (z : ℕ). less (x ∷ take n a) (z ∷ b) ≡ less (x ∷ a) (z ∷ b)) k (less_front x (take n a) b ∙ ih ∙ sym (less_front x a b))

pub less_irreflexive : (a : Schedule) → less a a ≡ false
less_irreflexive [] = less_nil []
less_irreflexive (x ∷ a) = less_front x a a ∙ less_irreflexive a

pub less_asymmetric : (a b : Schedule) → less a b ≡ true → less b a ≡ false
less_asymmetric [] b e = less_nil b
less_asymmetric (x ∷ a) [] e = absurd (false≢true (sym (less_nil (x ∷ a)) ∙ e))
less_asymmetric (x ∷ a) (y ∷ b) e = go (compared x y) (λ h. less_asymmetric a b h)
  where
    go : Compared x y → (less a b ≡ true → less b a ≡ false) → less (y ∷ b) (x ∷ a) ≡ false
    go (below h) ih = more_heads y x b a h
    go (above h) ih = absurd (false≢true (sym (more_heads x y a b h) ∙ e))
    go (same q) ih = subst (λ (z : ℕ). less (y ∷ b) (z ∷ a) ≡ false) (sym q) (less_front y b a ∙ ih (sym (less_front x a b) ∙ ap (λ (z : ℕ). less (x ∷ a) (z ∷ b)) q ∙ e))

pub less_transitive : (a b c : Schedule) → less a b ≡ true → less b c ≡ true → less a c ≡ true
less_transitive a [] c e f = absurd (false≢true (sym (less_nil a) ∙ e))
less_transitive a (y ∷ b) [] e f = absurd (false≢true (sym (less_nil (y ∷ b)) ∙ f))
less_transitive [] (y ∷ b) (z ∷ c) e f = nil_less z c
less_transitive (x ∷ a) (y ∷ b) (z ∷ c) e f = go (compared x y) (compared y z) (λ h k. less_transitive a b c h k)
  where
    go : Compared x y → Compared y z → (less a b ≡ true → less b c ≡ true → less a c ≡ true) → less (x ∷ a) (z ∷ c) ≡ true
    go (above h) q ih = absurd (false≢true (sym (more_heads x y a b h) ∙ e))
    go (below h) (above k) ih = absurd (false≢true (sym (more_heads y z b c k) ∙ f))
    go (same h) (above k) ih = absurd (false≢true (sym (more_heads y z b c k) ∙ f))
    go (below h) (below k) ih = less_heads x z a c (omega arith)
    go (below h) (same k) ih = less_heads x z a c (omega arith)
    go (same h) (below k) ih = less_heads x z a c (omega arith)
    go (same h) (same k) ih =
        ap (λ (w : ℕ). less (x ∷ a) (w ∷ c)) (sym (h ∙ k)) ∙ less_front x a c
        ∙ ih (sym (less_front x a b) ∙ ap (λ (w : ℕ). less (x ∷ a) (w ∷ b)) h ∙ e) (sym (less_front y b c) ∙ ap (λ (w : ℕ). less (y ∷ b) (w ∷ c)) k ∙ f)

-- not greater
abbrev pub AtMost : Schedule → Schedule → Type 0
AtMost a b = (a ≡ b) ⊎ (less a b ≡ true)

pub at_most_front : (t : ℕ) (a b : Schedule) → AtMost a b → AtMost (t ∷ a) (t ∷ b)
at_most_front t a b (inl e) = inl (ap (λ (s : Schedule). t ∷ s) e)
at_most_front t a b (inr e) = inr (less_front t a b ∙ e)

pub at_most_not_less : (a b : Schedule) → AtMost a b → less b a ≡ false
at_most_not_less a b (inl e) = ap (less b) e ∙ less_irreflexive b
at_most_not_less a b (inr e) = less_asymmetric a b e

pub not_less_at_most : (a b : Schedule) → less b a ≡ false → AtMost a b
not_less_at_most [] [] e = inl refl
not_less_at_most [] (y ∷ b) e = inr (nil_less y b)
not_less_at_most (x ∷ a) [] e = absurd (false≢true (sym e ∙ nil_less x a))
not_less_at_most (x ∷ a) (y ∷ b) e = go (compared x y) (λ h. not_less_at_most a b h)
  where
    go : Compared x y → (less b a ≡ false → AtMost a b) → AtMost (x ∷ a) (y ∷ b)
    go (below h) ih = inr (less_heads x y a b h)
    go (above h) ih = absurd (false≢true (sym e ∙ less_heads y x b a h))
    go (same q) ih = subst (λ (z : ℕ). AtMost (x ∷ a) (z ∷ b)) q (at_most_front x a b (ih (sym (less_front y b a) ∙ ap (λ (z : ℕ). less (y ∷ b) (z ∷ a)) (sym q) ∙ e)))
