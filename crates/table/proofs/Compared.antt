-- Two slices compared by the library: its test is the definition's.
use Rattle.std.proofs.Common.{◌≡◌, Bool, ◌&&◌, List, [], ◌∷◌, refl, ap}
use Rattle.std.specs.Cmp.Lexicographic.{pointwise}
use Rattle.spec_file.specs.Lists.{same_list}

pub pointwise_same : {A : Type 0} (f : A → A → Bool) (a b : List A) → pointwise f a b ≡ same_list f a b
unfolding same_list
pointwise_same f [] [] = refl
pointwise_same f [] (y ∷ b) = refl
pointwise_same f (x ∷ a) [] = refl
pointwise_same f (x ∷ a) (y ∷ b) = ap (λ (t : Bool). f x y && t) (pointwise_same f a b)
