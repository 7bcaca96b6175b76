-- What ranges of lists keep.
use mathlib.Core.Path.{◌≡◌, refl, ap, ◌∙◌}
use mathlib.Core.List.{List, ◌++◌, flat_map}
use Prim.Native.Nat.{ℕ, zero, suc, ◌+◌}
use native.Mathlib.Numerals.{add-one}
use Rattle.spec_schedules.specs.Lists.{range}
use Rattle.theory_search.specs.Found.{concat_range}

module _ {A : Type 0} where
  -- one list for each number, as a function over a list of numbers
  pub concat_range_flat : (f : ℕ → List A) (j d : ℕ) → concat_range f j d ≡ flat_map f (range d j)
  unfolding concat_range flat_map range
  concat_range_flat f zero d = refl
  concat_range_flat f (suc j) d = ap (λ (l : List A). f d ++ l) (concat_range_flat f j (d + 1) ∙ ap (λ (k : ℕ). flat_map f (range k j)) (add-one d))
