-- What `map_err` gives: the value that there was, or the error that was made of the error that there was.
use Rattle.std.specs.Prelude.{Result, Ok, Err, IsErrAnd, MatchResult}
use mathlib.Core.Path.{◌≡◌, refl, subst}

module _ {T E D : Type 0} (made : E → D → Type 0) (s : Result T E) (r : Result T D) (m : MatchResult s (λ x. r ≡ Ok x) (λ e. IsErrAnd r (made e))) where
  pub mapped_ok : (x : T) → r ≡ Ok x → s ≡ Ok x
  mapped_ok x q = go s m
    where
      go : (s : Result T E) → MatchResult s (λ x. r ≡ Ok x) (λ e. IsErrAnd r (made e)) → s ≡ Ok x
      go (Ok y) k = cc
      go (Err e) k = absurd (subst (λ (z : Result T D). IsErrAnd z (made e)) q k)

  pub mapped_err : (d : D) → r ≡ Err d → (e : E) × (s ≡ Err e) × made e d
  mapped_err d q = go s m
    where
      go : (s : Result T E) → MatchResult s (λ x. r ≡ Ok x) (λ e. IsErrAnd r (made e)) → (e : E) × (s ≡ Err e) × made e d
      go (Ok y) k = absurd (cc)
      go (Err e) k = (e, refl, subst (λ (z : Result T D). IsErrAnd z (made e)) q k)

-- one error that two ways name
pub same_err : {T D : Type 0} (r : Result T D) (d e : D) → r ≡ Err d → r ≡ Err e → d ≡ e
same_err r d e p q = cc
