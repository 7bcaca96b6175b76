-- One of each class: the members of a list to which no earlier member is alike.
use Rattle.std.specs.Prelude.{Bool, true, false, List, [], ◌∷◌}
use Rattle.spec_schedules.specs.Lists.{any}

-- the members of the list to which neither a member of `passed` nor an earlier member of the list is alike
unfoldable pub firsts_from : {A : Type 0} → (A → A → Bool) → List A → List A → List A
firsts_from like passed [] = []
firsts_from like passed (x ∷ xs) = elim (any (λ p. like p x) passed) [
  | true ↦ firsts_from like (x ∷ passed) xs
  | false ↦ x ∷ firsts_from like (x ∷ passed) xs
]

-- the first of each class
unfoldable pub firsts : {A : Type 0} → (A → A → Bool) → List A → List A
firsts like l = firsts_from like [] l
