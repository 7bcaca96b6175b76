-- What the tests of events, reads and lists say, both ways.
use Prim.Native.Nat.{ℕ}
use mathlib.Core.Path.{◌≡◌, refl, sym, ap, ap₂, ◌∙◌}
use mathlib.Core.Logic.{◌≢◌}
use mathlib.Core.Bool.{Bool, true, false, not, ◌&&◌, true≢false, false≢true}
use mathlib.Core.List.{List, [], ◌∷◌}
use borrow.Author.Tests.{eqb-true, eq-eqb, ne_eqb, not-true}
use lib.Dec.{eqb}
use Rattle.spec_file.proofs.DigitValues.{both}
use Rattle.spec_sc.specs.State.{Event}
use Rattle.spec_sc.specs.Same.{same_event, same_read}
use Rattle.spec_file.specs.Lists.{same_list}

pub both_and : {a b : Bool} → a ≡ true → b ≡ true → a && b ≡ true
both_and {a} {b} e f = rw (e, f)

pub not_of : (a : Bool) → (a ≡ true → ⊥) → not a ≡ true
not_of true n = absurd (n refl)
not_of false n = refl

pub same_event_is : (a b : Event) → same_event a b ≡ true → a ≡ b
unfolding same_event
same_event_is a b e =
    let r = both (eqb a.0 b.0) (eqb a.1 b.1) e in
    ap₂ (λ (x y : ℕ). let z : Event = (x, y) in z) (eqb-true a.0 b.0 r.0) (eqb-true a.1 b.1 r.1)

pub is_same_event : (a b : Event) → a ≡ b → same_event a b ≡ true
unfolding same_event
is_same_event a b q = both_and (eq-eqb a.0 b.0 (ap (λ (x : Event). x.0) q)) (eq-eqb a.1 b.1 (ap (λ (x : Event). x.1) q))

pub differs : (a b : Event) → not (same_event a b) ≡ true → a ≢ b
differs a b n q = true≢false (sym (is_same_event a b q) ∙ not-true (same_event a b) n)

pub is_different : (a b : Event) → a ≢ b → not (same_event a b) ≡ true
is_different a b n = not_of (same_event a b) (λ e. n (same_event_is a b e))

pub same_read_is : (a b : ℕ × Event) → same_read a b ≡ true → a ≡ b
unfolding same_read
same_read_is a b e =
    let r = both (eqb a.0 b.0) (same_event a.1 b.1) e in
    ap₂ (λ (x : ℕ) (y : Event). let z : ℕ × Event = (x, y) in z) (eqb-true a.0 b.0 r.0) (same_event_is a.1 b.1 r.1)

pub same_read_lem : (a : ℕ × Event) → same_read a a ≡ true
unfolding same_read
same_read_lem a = both_and (eq-eqb a.0 a.0 refl) (is_same_event a.1 a.1 refl)

-- reads compared part by part: the number, then the source's thread and number
pub read_differs : (a b : ℕ × Event) → a.0 ≢ b.0 → same_read a b ≡ false
unfolding same_read
read_differs a b n = rw (ne_eqb a.0 b.0 n)

pub read_sources : (a b : ℕ × Event) → a.0 ≡ b.0 → same_read a b ≡ same_event a.1 b.1
unfolding same_read
read_sources a b e = rw (eq-eqb a.0 b.0 e)

pub event_differs : (a b : Event) → a.0 ≢ b.0 → same_event a b ≡ false
unfolding same_event
event_differs a b n = rw (ne_eqb a.0 b.0 n)

pub event_numbers : (a b : Event) → a.0 ≡ b.0 → same_event a b ≡ eqb a.1 b.1
unfolding same_event
event_numbers a b e = rw (eq-eqb a.0 b.0 e)

module _ {A : Type 0} (f : A → A → Bool) where
  -- lists compared member by member
  pub same_nil : same_list f [] [] ≡ true
  unfolding same_list
  same_nil = refl

  pub same_cons : (x : A) (xs : List A) (y : A) (ys : List A) → same_list f (x ∷ xs) (y ∷ ys) ≡ f x y && same_list f xs ys
  unfolding same_list
  same_cons x xs y ys = refl

  pub same_shorter : (y : A) (ys : List A) → same_list f [] (y ∷ ys) ≡ false
  unfolding same_list
  same_shorter y ys = refl

  pub same_longer : (x : A) (xs : List A) → same_list f (x ∷ xs) [] ≡ false
  unfolding same_list
  same_longer x xs = refl
