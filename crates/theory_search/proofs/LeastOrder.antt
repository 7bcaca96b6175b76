-- The least order of a run's actions is a greedy walk, so it is known one action at a time.
use mathlib.Core.Path.{◌≡◌, refl, sym, ap, ap₂, ◌∙◌}
use mathlib.Core.Bool.{Bool}
use mathlib.Core.Option.{some}
use mathlib.Core.List.{List, [], ◌∷◌}
use Prim.Native.Nat.{ℕ, suc}
use native.Mathlib.Omega.{arith}
use native.Mathlib.Numerals.{sub-one}
use lib.ListN.{length}
use Rattle.spec_schedules.specs.Lists.{find}
use Rattle.spec_schedules.specs.Order.{Schedule}
use Rattle.spec_schedules.specs.Greedy.{greedy}
use Rattle.spec_schedules.specs.Orders.{ready, Remaining}
use Rattle.theory_search.specs.Orders.{least_order}
use Rattle.spec_schedules.proofs.Loops.{greedy_over, greedy_step}
use Rattle.spec_schedules.proofs.Remaining.{out_same}

module _ {D : Type 0} (who : D → ℕ) (dependent : D → D → Bool) (names : List ℕ) where
  abbrev walk : ℕ → List D → Schedule
  walk n ds = greedy (Remaining who dependent names) (ready who dependent) n ds

  -- of as many steps as there are actions
  pub least_walk : (ds : List D) (n : ℕ) → length ds ≡ n → least_order who dependent names ds ≡ greedy (Remaining who dependent names) (ready who dependent) n ds
  unfolding least_order
  least_walk ds n e = ap (λ (k : ℕ). walk k ds) e

  pub least_nil : least_order who dependent names [] ≡ []
  least_nil = least_walk [] 0 refl ∙ greedy_over (Remaining who dependent names) (ready who dependent) 0 [] refl

  -- where the first action goes first, the least order of the others follows
  pub least_cons : (d : D) (ds : List D) → find (ready who dependent (d ∷ ds)) names ≡ some (who d) → least_order who dependent names (d ∷ ds) ≡ who d ∷ least_order who dependent names ds
  least_cons d ds e =
      least_walk (d ∷ ds) (suc (length ds)) refl
      ∙ greedy_step (Remaining who dependent names) (ready who dependent) (suc (length ds)) (d ∷ ds) (who d) (omega arith) e
      ∙ ap₂ (λ (k : ℕ) (es : List D). who d ∷ walk k es) (sub-one (suc (length ds))) (out_same who dependent d ds (who d) refl)
      ∙ ap (λ (s : Schedule). who d ∷ s) (sym (least_walk ds (length ds) refl))
