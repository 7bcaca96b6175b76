-- Laws of `Everywhere`: what holds of every member of a list.
use Prim.Native.Nat.{ℕ, zero, suc}
use mathlib.Core.Path.{refl, sym, subst}
use mathlib.Core.List.{List, [], ◌∷◌, ◌++◌, map, Memᴰ}
use lib.ListN.{get_or, set}
use Rattle.spec_file.specs.WellFormed.{Everywhere}

module _ {A : Type 0} (P : A → Type 0) where
  -- what holds everywhere holds of each member, and it is enough to show it of each member
  pub everywhere_at : {x : A} {l : List A} → Memᴰ x l → Everywhere P l → P x
  everywhere_at (Memᴰ.head e) h = subst P (sym e) h.0
  everywhere_at (Memᴰ.tail m) h = everywhere_at m h.1

  pub everywhere_all : (l : List A) → ((x : A) → Memᴰ x l → P x) → Everywhere P l
  everywhere_all [] h = tt
  everywhere_all (x ∷ xs) h = (h x (Memᴰ.head refl), everywhere_all xs (λ y m. h y (Memᴰ.tail m)))

  pub everywhere_get_d : (l : List A) (i : ℕ) (d : A) → Everywhere P l → P d → P (get_or l i d)
  everywhere_get_d [] i d h p = p
  everywhere_get_d (x ∷ xs) zero d h p = h.0
  everywhere_get_d (x ∷ xs) (suc i) d h p = everywhere_get_d xs i d h.1 p

  pub everywhere_append : (l m : List A) → Everywhere P l → Everywhere P m → Everywhere P (l ++ m)
  everywhere_append [] m h k = k
  everywhere_append (x ∷ xs) m h k = (h.0, everywhere_append xs m h.1 k)

  pub everywhere_set : (l : List A) (i : ℕ) (a : A) → Everywhere P l → P a → Everywhere P (set l i a)
  everywhere_set [] i a h p = tt
  everywhere_set (x ∷ xs) zero a h p = (p, h.1)
  everywhere_set (x ∷ xs) (suc i) a h p = (h.0, everywhere_set xs i a h.1 p)

-- what follows from it holds everywhere too
pub everywhere_weaken : {A : Type 0} (P Q : A → Type 0) → ((x : A) → P x → Q x) → (l : List A) → Everywhere P l → Everywhere Q l
everywhere_weaken P Q f [] h = tt
everywhere_weaken P Q f (x ∷ xs) h = (f x h.0, everywhere_weaken P Q f xs h.1)

pub everywhere_map : {A B : Type 0} (P : A → Type 0) (Q : B → Type 0) (f : A → B) → ((x : A) → P x → Q (f x))
    → (l : List A) → Everywhere P l → Everywhere Q (map f l)
everywhere_map P Q f k [] h = tt
everywhere_map P Q f k (x ∷ xs) h = (k x h.0, everywhere_map P Q f k xs h.1)
