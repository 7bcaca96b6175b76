-- MEMBERS OF AN ASCENDING LIST BY THEIR NUMBER: the member number k has exactly k smaller ones.
use Prim.Native.Nat.{ℕ, zero, suc, ◌≤◌}
use mathlib.Core.Path.{◌≡◌, refl, sym, ap, subst, ◌∙◌}
use mathlib.Core.Logic.{◌↔◌, ◌⊎◌, inl, inr}
use mathlib.Core.Bool.{true, false}
use mathlib.Core.Option.{Option, none, some, none-ne-some}
use mathlib.Core.List.Memᴰ
use mathlib.Core.List.{List, [], ◌∷◌, Memᴰ}
use native.Mathlib.Omega.{arith}
use lib.ListN.{length}
use Rattle.spec_file.specs.Lists.{Ascends}
use Rattle.spec_schedules.specs.Lists.{filter}
use Rattle.spec_schedules.specs.Order.{Schedule, less}
use Rattle.spec_schedules.specs.Calls.{member}
use Rattle.spec_schedules.proofs.Kept.{filter_none}
use Rattle.spec_schedules.proofs.Lists.{filter_yes, filter_no}
use Rattle.spec_schedules.proofs.Order.{less_irreflexive, less_asymmetric}

-- one turn
pub member_nil : (k : ℕ) → member [] k ≡ none
unfolding member
member_nil k = refl

pub member_first : (x : Schedule) (l : List Schedule) → member (x ∷ l) 0 ≡ some x
unfolding member
member_first x l = refl

pub member_later : (x : Schedule) (l : List Schedule) (k : ℕ) → member (x ∷ l) (suc k) ≡ member l k
unfolding member
member_later x l k = refl

-- what is a member's number is one of the list
pub member_in : (l : List Schedule) (k : ℕ) (s : Schedule) → member l k ≡ some s → Memᴰ s l
member_in [] k s e = absurd (none-ne-some s (sym (member_nil k) ∙ e))
member_in (x ∷ l) zero s e = let q = sym (member_first x l) ∙ e in let i : x ≡ s = cc in Memᴰ.head (sym i)
member_in (x ∷ l) (suc k) s e = Memᴰ.tail (member_in l k s (sym (member_later x l k) ∙ e))

-- each of the list has a number
pub in_member : (l : List Schedule) (s : Schedule) → Memᴰ s l → (k : ℕ) × (member l k ≡ some s)
in_member [] s m = absurd (Memᴰ.not-nil m)
in_member (x ∷ l) s m = go (Memᴰ.cases_cons m) (λ n. in_member l s n)
  where
    go : (s ≡ x) ⊎ Memᴰ s l → (Memᴰ s l → (k : ℕ) × (member l k ≡ some s)) → (k : ℕ) × (member (x ∷ l) k ≡ some s)
    go (inl i) ih = (0, member_first x l ∙ ap (λ (z : Schedule). some z) (sym i))
    go (inr n) ih = let r = ih n in (suc r.0, member_later x l r.0 ∙ r.1)

-- there is none exactly from the list's length on
pub member_ends : (l : List Schedule) (k : ℕ) → (member l k ≡ none) ↔ (length l ≤ k)
member_ends [] k = ((λ e. omega arith), λ h. member_nil k)
member_ends (x ∷ l) zero = ((λ e. absurd (none-ne-some x (sym e ∙ member_first x l))), λ h. absurd (omega arith))
member_ends (x ∷ l) (suc k) =
    let r = member_ends l k in
    ((λ e. let h = r.0 (sym (member_later x l k) ∙ e) in omega (arith, h)), λ h. member_later x l k ∙ r.1 (omega (arith, h)))

-- EXACTLY k ARE SMALLER
pub member_number : (l : List Schedule) → Ascends less l → (k : ℕ) (s : Schedule) → member l k ≡ some s → length (filter (λ w. less w s) l) ≡ k
member_number [] a k s e = absurd (none-ne-some s (sym (member_nil k) ∙ e))
member_number (x ∷ l) a zero s e =
    let q = sym (member_first x l) ∙ e in
    let i : x ≡ s = cc in
    subst (λ (z : Schedule). length (filter (λ w. less w z) (x ∷ l)) ≡ 0) i
    (ap length (filter_no (λ w. less w x) x l (less_irreflexive x) ∙ filter_none (λ w. less w x) l (λ y m. less_asymmetric x y (a.0 y m))))
member_number (x ∷ l) a (suc k) s e =
    let q = sym (member_later x l k) ∙ e in
    ap length (filter_yes (λ w. less w s) x l (a.0 s (member_in l k s q))) ∙ ap suc (member_number l a.1 k s q)
