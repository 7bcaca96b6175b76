-- A TABLE STAYS TRUE: one that says nothing is, and so is one that has honestly taken up what is right of a position.
use mathlib.Core.Path.{◌≡◌, sym, subst}
use mathlib.Core.Logic.{◌⊎◌, inl, inr}
use Rattle.theory_states.specs.Memory.{True, Shared, Honest}

module _ {P K E : Type 0} (Met : P → Type 0) (key : P → K) (Right : P → E → Type 0) where
  pub nothing_true : (Says : K → E → Type 0) → ((k : K) (c : E) → Says k c → ⊥) → True Met key Right Says
  nothing_true Says e x m c s = absurd (e (key x) c s)

  pub put_true : (Fit : K → Type 0) → ((x : P) → Met x → Fit (key x)) → Shared Met key Right → (Says Says' : K → E → Type 0) (x : P) (n : E) →
      True Met key Right Says → Met x → Right x n → Honest Fit (key x) n Says Says' → True Met key Right Says'
  put_true Fit fit shared Says Says' x n t m r honest y there c s = go (honest (key y) (fit y there) c s)
    where
      go : Says (key y) c ⊎ ((key y ≡ key x) × (c ≡ n)) → Right y c
      go (inl old) = t y there c old
      go (inr new) = subst (Right y) (sym new.1) (shared x y m there (sym new.0) n r)
