-- What holds of every member of a list holds of every member of the list turned round.
use mathlib.Core.List.{List, [], ◌∷◌, reverse, reverse_aux}
use Rattle.spec_file.specs.WellFormed.{Everywhere}

module _ {A : Type 0} (P : A → Type 0) where
  reversed : (l r : List A) → Everywhere P l → Everywhere P r → Everywhere P (reverse_aux l r)
  reversed [] r h k = k
  reversed (x ∷ l) r h k = reversed l (x ∷ r) h.1 (h.0, k)

  pub everywhere_reverse : (l : List A) → Everywhere P l → Everywhere P (reverse l)
  everywhere_reverse l h = reversed l [] h tt
