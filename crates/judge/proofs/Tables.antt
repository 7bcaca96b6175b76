-- Two tables compared by the library, number by number.
use Prim.Native.Nat.{ℕ}
use mathlib.Core.Path.{◌≡◌, refl, sym, ◌∙◌}
use mathlib.Core.Bool.{true, false, not, true≢false}
use mathlib.Core.List.{List}
use borrow.Author.Tests.{not-true, not-false}
use lib.Dec.{eqb}
use lib.Pointwise.{pointwise}
use Rattle.std.proofs.lemmas.Slice.Eq.{slice_eq-Decides}
use Rattle.std.proofs.lemmas.Bool.Decides.{Decides-eqb}

pub alike : (a b : List ℕ) → not (pointwise eqb a b) ≡ false → a ≡ b
alike a b h = (slice_eq-Decides Decides-eqb a b (pointwise eqb a b) refl).0 (not-false _ h)

pub unlike : (a b : List ℕ) → not (pointwise eqb a b) ≡ true → a ≡ b → ⊥
unlike a b h e = absurd (true≢false (sym ((slice_eq-Decides Decides-eqb a b (pointwise eqb a b) refl).1 e) ∙ not-true _ h))
