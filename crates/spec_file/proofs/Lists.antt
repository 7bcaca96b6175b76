-- What the test of two lists says, both ways.
use mathlib.Core.Path.{◌≡◌, refl, sym, ap₂, ◌∙◌}
use mathlib.Core.Bool.{Bool, true, false, ◌&&◌, false≢true}
use mathlib.Core.List.{List, [], ◌∷◌}
use Rattle.spec_file.specs.Lists.{same_list}

first : (a b : Bool) → a && b ≡ true → a ≡ true
first true b e = refl
first false b e = absurd (false≢true e)

second : (a b : Bool) → a && b ≡ true → b ≡ true
second true b e = e
second false b e = absurd (false≢true e)

module _ {A : Type 0} (f : A → A → Bool) where
  pub same_list_is : ((x y : A) → f x y ≡ true → x ≡ y) → (xs ys : List A) → same_list f xs ys ≡ true → xs ≡ ys
  unfolding same_list
  same_list_is s [] [] e = refl
  same_list_is s [] (y ∷ ys) e = absurd (false≢true e)
  same_list_is s (x ∷ xs) [] e = absurd (false≢true e)
  same_list_is s (x ∷ xs) (y ∷ ys) e =
      ap₂ (λ (a : A) (b : List A). a ∷ b) (s x y (first (f x y) (same_list f xs ys) e)) (same_list_is s xs ys (second (f x y) (same_list f xs ys) e))

  pub same_list_lem : ((x : A) → f x x ≡ true) → (xs : List A) → same_list f xs xs ≡ true
  unfolding same_list
  same_list_lem s [] = refl
  same_list_lem s (x ∷ xs) = rw (s x) (same_list_lem s xs)
