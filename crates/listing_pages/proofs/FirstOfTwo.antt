-- The first that passes a test, in a list of two parts: of the first part, or else of the second.
use mathlib.Core.Path.{◌≡◌, refl, sym, ◌∙◌}
use mathlib.Core.Bool.{Bool, true, false}
use mathlib.Core.Option.{none, some, none-ne-some}
use mathlib.Core.List.{List, [], ◌∷◌, ◌++◌}
use Rattle.spec_schedules.specs.Lists.{find}
use Rattle.spec_schedules.proofs.Lists.{find_yes, find_no}

module _ {A : Type 0} (f : A → Bool) where
  pub find_empty : find f [] ≡ none
  unfolding find
  find_empty = refl

  pub first_part : (l rest : List A) (s : A) → find f l ≡ some s → find f (l ++ rest) ≡ some s
  first_part [] rest s e = absurd (none-ne-some s (sym find_empty ∙ e))
  first_part (x ∷ l) rest s e = go (f x) refl (first_part l rest s)
    where
      go : (b : Bool) → f x ≡ b → (find f l ≡ some s → find f (l ++ rest) ≡ some s) → find f (x ∷ (l ++ rest)) ≡ some s
      go true q ih = find_yes f x (l ++ rest) q ∙ sym (find_yes f x l q) ∙ e
      go false q ih = find_no f x (l ++ rest) q ∙ ih (sym (find_no f x l q) ∙ e)

  pub second_part : (l rest : List A) → find f l ≡ none → find f (l ++ rest) ≡ find f rest
  second_part [] rest e = refl
  second_part (x ∷ l) rest e = go (f x) refl (second_part l rest)
    where
      go : (b : Bool) → f x ≡ b → (find f l ≡ none → find f (l ++ rest) ≡ find f rest) → find f (x ∷ (l ++ rest)) ≡ find f rest
      go true q ih = absurd (none-ne-some x (sym e ∙ find_yes f x l q))
      go false q ih = find_no f x (l ++ rest) q ∙ ih (sym (find_no f x l q) ∙ e)
