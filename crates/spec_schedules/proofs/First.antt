-- The first member of a list, and the first that passes a test.
use mathlib.Core.Path.{◌≡◌, refl, sym, ap, ◌∙◌}
use mathlib.Core.Bool.{Bool, true, false}
use mathlib.Core.Option.{none, some, none-ne-some}
use mathlib.Core.List.{List, [], ◌∷◌, Memᴰ}
use Rattle.spec_schedules.specs.Lists.{filter, find, head_of}
use Rattle.spec_schedules.specs.Order.{Schedule, less}
use Rattle.spec_schedules.specs.Calls.{next}
use Rattle.spec_schedules.proofs.Lists.{find_yes, find_no}

pub head_cons : {A : Type 0} (x : A) (l : List A) → head_of (x ∷ l) ≡ some x
unfolding head_of
head_cons x l = refl

pub find_none : {A : Type 0} (f : A → Bool) (l : List A) → ((x : A) → Memᴰ x l → f x ≡ false) → find f l ≡ none
unfolding find
find_none f [] h = refl
find_none f (x ∷ l) h = rw (h x (Memᴰ.head refl), find) (find_none f l (λ y m. h y (Memᴰ.tail m)))

pub find_passes : {A : Type 0} (f : A → Bool) (l : List A) (s : A) → find f l ≡ some s → f s ≡ true
unfolding find
find_passes f [] s e = absurd (none-ne-some s e)
find_passes f (x ∷ l) s e = go (f x) refl (λ k. find_passes f l s k)
  where
    go : (b : Bool) → f x ≡ b → (find f l ≡ some s → f s ≡ true) → f s ≡ true
    go true q ih = let i : x ≡ s = let k = sym (find_yes f x l q) ∙ e in cc in ap f (sym i) ∙ q
    go false q ih = ih (sym (find_no f x l q) ∙ e)

pub head_filter : {A : Type 0} (f : A → Bool) (l : List A) → head_of (filter f l) ≡ find f l
unfolding head_of filter find
head_filter f [] = refl
head_filter f (x ∷ l) = go (f x) refl (head_filter f l)
  where
    go : (b : Bool) → f x ≡ b → head_of (filter f l) ≡ find f l → head_of (filter f (x ∷ l)) ≡ find f (x ∷ l)
    go true e ih = rw (e, filter, find)
    go false e ih = rw (e, filter, find) ih

pub next_find : (s : Schedule) (l : List Schedule) → next l s ≡ find (less s) l
unfolding next find
next_find s [] = refl
next_find s (x ∷ l) = go (less s x) refl (next_find s l)
  where
    go : (b : Bool) → less s x ≡ b → next l s ≡ find (less s) l → next (x ∷ l) s ≡ find (less s) (x ∷ l)
    go true e ih = rw (e, next, find)
    go false e ih = rw (e, next, find) ih
