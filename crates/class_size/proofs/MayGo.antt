-- Where the `02` lines let a thread go, by its class and the other's.
use Prim.Native.Nat.{ℕ, ◌<◌, ◌≤◌}
use native.Mathlib.Omega.{arith}
use mathlib.Core.Path.{◌≡◌, refl, sym, ap, ◌∙◌}
use mathlib.Core.Bool.{Bool, true, false, not, ◌&&◌, ◌||◌}
use mathlib.Core.List.{List}
use lib.Dec.{eqb, leb}
use lib.ListN.{get_or}
use borrow.Author.Tests.{eq-eqb, ne_eqb, eqb-true, eqb-false, leb-true, leb-false}
use Rattle.spec_model.specs.Exchange.{together}
use Rattle.search_place.specs.ClassGroups.{groups_of}
use Rattle.search_place.proofs.ClassGroups.{together_class, not_together, together_test}
use Rattle.class_size.specs.Moves.{may_go}

pub may_own : (groups : List (List ℕ)) (t u : ℕ) → t ≡ u → true ≡ may_go groups t u
unfolding may_go
may_own groups t u e = rw (eq-eqb u t (sym e))

module _ (class : List ℕ) (n t u : ℕ) (ne : t ≡ u → ⊥) where
  other : may_go (groups_of class n) t u ≡ together (groups_of class n) t u
  unfolding may_go
  other = ap (λ (b : Bool). b || together (groups_of class n) t u) (ne_eqb u t (λ e. ne (sym e)))

  pub may_alone : get_or class t 0 ≡ 0 → false ≡ may_go (groups_of class n) t u
  may_alone e = sym (other ∙ not_together class n t u (λ k. omega (arith, e, (together_class class n t u k).1)))

  pub may_unknown : n < get_or class t 0 → false ≡ may_go (groups_of class n) t u
  may_unknown h = sym (other ∙ not_together class n t u (λ k. omega (arith, h, (together_class class n t u k).2)))

  pub may_line : t < 6 → u < 6 → (get_or class t 0 ≡ 0 → ⊥) → get_or class t 0 ≤ n → eqb (get_or class u 0) (get_or class t 0) ≡ may_go (groups_of class n) t u
  may_line h i some le = together_test class n t u h i (omega (arith, some)) le ∙ sym other

-- by the classes, test by test
module _ (class : List ℕ) (n t u : ℕ) (a : t < 6) (b : u < 6) where
  abbrev g : ℕ
  g = get_or class t 0

  pub may_is : may_go (groups_of class n) t u ≡ (eqb t u || (not (eqb g 0) && (leb g n && eqb (get_or class u 0) g)))
  may_is = go (eqb t u) (eqb g 0) (leb g n) refl refl refl
    where
      go : (x y z : Bool) → eqb t u ≡ x → eqb g 0 ≡ y → leb g n ≡ z → may_go (groups_of class n) t u ≡ (eqb t u || (not (eqb g 0) && (leb g n && eqb (get_or class u 0) g)))
      go true _ _ p _ _ = rw p (sym (may_own (groups_of class n) t u (eqb-true t u p)))
      go false true _ p q _ = rw (p, q) (sym (may_alone class n t u (eqb-false t u p) (eqb-true g 0 q)))
      go false false false p q r = rw (p, q, r) (sym (may_unknown class n t u (eqb-false t u p) (leb-false g n r)))
      go false false true p q r = rw (p, q, r) (sym (may_line class n t u (eqb-false t u p) a b (eqb-false g 0 q) (leb-true g n r)))
