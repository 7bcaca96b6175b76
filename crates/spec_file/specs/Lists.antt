-- Small functions on lists that this crate and all above it share.
use Rattle.std.specs.Prelude.{◌≡◌, Bool, true, false, ◌&&◌}
use mathlib.Core.List.{List, [], ◌∷◌, Memᴰ}

-- whether two lists are the same, member by member
unfoldable pub same_list : {A : Type 0} → (A → A → Bool) → List A → List A → Bool
same_list f [] [] = true
same_list f [] (y ∷ ys) = false
same_list f (x ∷ xs) [] = false
same_list f (x ∷ xs) (y ∷ ys) = f x y && same_list f xs ys

-- each member is smaller than all later ones
abbrev pub Ascends : {A : Type 0} → (A → A → Bool) → List A → Type 0
Ascends less [] = Unit {0}
Ascends {A} less (x ∷ xs) = ((y : A) → Memᴰ y xs → less x y ≡ true) × Ascends less xs
