-- THE FIRST SO MANY of an ascending list are those smaller than the next one.
use Prim.Native.Nat.{ℕ, zero, suc, ◌+◌}
use mathlib.Core.Path.{◌≡◌, refl, sym, ap, subst, ◌∙◌}
use mathlib.Core.Logic.{◌⊎◌, inl, inr}
use mathlib.Core.Bool.{true, false, true≢false}
use mathlib.Core.Option.{none, some, none-ne-some}
use mathlib.Core.List.Memᴰ
use mathlib.Core.List.{List, [], ◌∷◌, ◌++◌, Memᴰ}
use native.Mathlib.Omega.{arith}
use lib.ListN.{take}
use Rattle.spec_file.specs.Lists.{Ascends}
use Rattle.spec_schedules.specs.Order.{Schedule, less}
use Rattle.spec_schedules.specs.Calls.{member}
use Rattle.spec_schedules.proofs.Order.{less_irreflexive, less_asymmetric}
use Rattle.spec_members.proofs.Numbered.{member_in, member_nil, member_first, member_later}

-- what is among the first so many is in the list
pub take_in : (l : List Schedule) (k : ℕ) (r : Schedule) → Memᴰ r (take k l) → Memᴰ r l
take_in [] zero r m = m
take_in [] (suc k) r m = m
take_in (x ∷ l) zero r m = absurd (Memᴰ.not-nil m)
take_in (x ∷ l) (suc k) r m = go (Memᴰ.cases_cons m) (λ n. take_in l k r n)
  where
    go : (r ≡ x) ⊎ Memᴰ r (take k l) → (Memᴰ r (take k l) → Memᴰ r l) → Memᴰ r (x ∷ l)
    go (inl i) ih = Memᴰ.head i
    go (inr n) ih = Memᴰ.tail (ih n)

-- it is smaller than the next
pub take_below : (l : List Schedule) → Ascends less l → (k : ℕ) (s r : Schedule) → member l k ≡ some s → Memᴰ r (take k l) → less r s ≡ true
take_below [] a k s r e m = absurd (none-ne-some s (sym (member_nil k) ∙ e))
take_below (x ∷ l) a zero s r e m = absurd (Memᴰ.not-nil m)
take_below (x ∷ l) a (suc k) s r e m = go (Memᴰ.cases_cons m) (λ n. take_below l a.1 k s r (sym (member_later x l k) ∙ e) n)
  where
    go : (r ≡ x) ⊎ Memᴰ r (take k l) → (Memᴰ r (take k l) → less r s ≡ true) → less r s ≡ true
    go (inl i) ih = subst (λ (z : Schedule). less z s ≡ true) (sym i) (a.0 s (member_in l k s (sym (member_later x l k) ∙ e)))
    go (inr n) ih = ih n

-- and what is smaller is among them
pub below_take : (l : List Schedule) → Ascends less l → (k : ℕ) (s r : Schedule) → member l k ≡ some s → Memᴰ r l → less r s ≡ true → Memᴰ r (take k l)
below_take [] a k s r e m h = absurd (Memᴰ.not-nil m)
below_take (x ∷ l) a zero s r e m h = absurd (go (Memᴰ.cases_cons m))
  where
    i : x ≡ s
    i = let q = sym (member_first x l) ∙ e in cc

    go : (r ≡ x) ⊎ Memᴰ r l → ⊥
    go (inl j) = true≢false (sym h ∙ ap (λ (z : Schedule). less z s) (j ∙ i) ∙ less_irreflexive s)
    go (inr n) = true≢false (sym h ∙ subst (λ (z : Schedule). less r z ≡ false) i (less_asymmetric x r (a.0 r n)))
below_take (x ∷ l) a (suc k) s r e m h = go (Memᴰ.cases_cons m) (λ n. below_take l a.1 k s r (sym (member_later x l k) ∙ e) n h)
  where
    go : (r ≡ x) ⊎ Memᴰ r l → (Memᴰ r l → Memᴰ r (take k l)) → Memᴰ r (x ∷ take k l)
    go (inl i) ih = Memᴰ.head i
    go (inr n) ih = Memᴰ.tail (ih n)

-- ONE MORE
pub take_more : (l : List Schedule) (k : ℕ) (s : Schedule) → member l k ≡ some s → take (k + 1) l ≡ take k l ++ (s ∷ [])
take_more [] k s e = absurd (none-ne-some s (sym (member_nil k) ∙ e))
take_more (x ∷ l) zero s e = let q = sym (member_first x l) ∙ e in let i : x ≡ s = cc in ap (λ (z : Schedule). z ∷ []) i
take_more (x ∷ l) (suc k) s e =
    let z : suc k + 1 ≡ suc (k + 1) = omega arith in
    ap (λ (n : ℕ). take n (x ∷ l)) z ∙ ap (λ (t : List Schedule). x ∷ t) (take_more l k s (sym (member_later x l k) ∙ e))
