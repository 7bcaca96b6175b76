-- The first member of an ascending list of schedules that passes a test is the member that passes it while no smaller one does.
use Prim.Native.Nat.{ℕ}
use mathlib.Core.Path.{◌≡◌, refl, sym, ap, subst, ◌∙◌}
use mathlib.Core.Logic.{◌⊎◌, inl, inr, ⊎_elim}
use mathlib.Core.Bool.{Bool, true, false, true≢false}
use mathlib.Core.Option.{none, some}
use mathlib.Core.List.Memᴰ
use mathlib.Core.List.{List, [], ◌∷◌, Memᴰ}
use native.Mathlib.Omega.{arith}
use Rattle.spec_schedules.specs.Lists.{find}
use Rattle.spec_file.specs.Lists.{Ascends}
use Rattle.spec_schedules.specs.Order.{Schedule, less}
use Rattle.spec_schedules.proofs.Lists.{find_yes, find_no}
use Rattle.spec_schedules.proofs.First.{find_none}
use Rattle.spec_schedules.proofs.Order.{less_irreflexive, less_asymmetric}

-- s passes, and no smaller member does
abbrev pub FirstIn : (Schedule → Bool) → List Schedule → Schedule → Type 0
FirstIn f l s = Memᴰ s l × (f s ≡ true) × ((r : Schedule) → Memᴰ r l → less r s ≡ true → f r ≡ false)

pub find_in : (f : Schedule → Bool) (l : List Schedule) → Ascends less l → (s : Schedule) → find f l ≡ some s → FirstIn f l s
find_in f [] a s e = absurd (let k = sym (find_none f [] (λ x m. absurd (Memᴰ.not-nil m))) ∙ e in let z : ◌≡◌ {A = ℕ} 0 1 = cc in omega arith)
find_in f (x ∷ l) a s e = go (f x) refl (λ k. find_in f l a.1 s k)
  where
    none_below : (r : Schedule) → Memᴰ r (x ∷ l) → less r x ≡ true → ⊥
    none_below r m q = ⊎_elim
        (λ (i : r ≡ x). true≢false (sym q ∙ ap (λ (z : Schedule). less z x) i ∙ less_irreflexive x))
        (λ (k : Memᴰ r l). true≢false (sym q ∙ less_asymmetric x r (a.0 r k)))
        (Memᴰ.cases_cons m)

    go : (b : Bool) → f x ≡ b → (find f l ≡ some s → FirstIn f l s) → FirstIn f (x ∷ l) s
    go true q ih = let i : x ≡ s = let k = sym (find_yes f x l q) ∙ e in cc in subst (FirstIn f (x ∷ l)) i (Memᴰ.head refl, q, λ r m k. absurd (none_below r m k))
    go false q ih =
        let r = ih (sym (find_no f x l q) ∙ e) in
        (Memᴰ.tail r.0, r.1, λ y m k. ⊎_elim (λ (i : y ≡ x). ap f i ∙ q) (λ (n : Memᴰ y l). r.2 y n k) (Memᴰ.cases_cons m))

pub in_find : (f : Schedule → Bool) (l : List Schedule) → Ascends less l → (s : Schedule) → FirstIn f l s → find f l ≡ some s
in_find f [] a s k = absurd (Memᴰ.not-nil k.0)
in_find f (x ∷ l) a s k = go (Memᴰ.cases_cons k.0) (λ m. in_find f l a.1 s (m, k.1, λ r n q. k.2 r (Memᴰ.tail n) q))
  where
    go : (s ≡ x) ⊎ Memᴰ s l → (Memᴰ s l → find f l ≡ some s) → find f (x ∷ l) ≡ some s
    go (inl i) ih = find_yes f x l (ap f (sym i) ∙ k.1) ∙ ap (λ (z : Schedule). some z) (sym i)
    go (inr m) ih = find_no f x l (k.2 x (Memᴰ.head refl) (a.0 s m)) ∙ ih m

pub none_find : (f : Schedule → Bool) (l : List Schedule) → find f l ≡ none → (s : Schedule) → Memᴰ s l → f s ≡ false
none_find f [] e s m = absurd (Memᴰ.not-nil m)
none_find f (x ∷ l) e s m = go (f x) refl (Memᴰ.cases_cons m) (λ k n. none_find f l k s n)
  where
    go : (b : Bool) → f x ≡ b → (s ≡ x) ⊎ Memᴰ s l → (find f l ≡ none → Memᴰ s l → f s ≡ false) → f s ≡ false
    go true q d ih = absurd (let k = sym (find_yes f x l q) ∙ e in let z : ◌≡◌ {A = ℕ} 0 1 = cc in omega arith)
    go false q (inl i) ih = ap f i ∙ q
    go false q (inr n) ih = ih (sym (find_no f x l q) ∙ e) n
