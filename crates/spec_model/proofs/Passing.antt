-- Actions that one passes, going back from it: they are of other bytes and need not stay before it.
use Prim.Native.Nat.{ℕ}
use mathlib.Core.Path.{◌≡◌, sym, ◌∙◌}
use mathlib.Core.Logic.{◌≢◌}
use mathlib.Core.Bool.{Bool, true, false}
use mathlib.Core.Option.{some}
use mathlib.Core.List.{List, [], ◌∷◌, ◌++◌}
use Rattle.spec_schedules.specs.Orders.{next_of, clear}
use Rattle.spec_schedules.proofs.Remaining.{next_same, next_other, clear_same, clear_more}

module _ {D : Type 0} (who : D → ℕ) (dependent : D → D → Bool) where
  -- each of these is of another byte than d and need not stay before it
  abbrev pub Passed : List D → D → Type 0
  Passed [] d = Unit {0}
  Passed (e ∷ ds) d = (who e ≢ who d) × (dependent e d ≡ false) × Passed ds d

  pub passed_append : (xs ys : List D) (d : D) → Passed xs d → Passed ys d → Passed (xs ++ ys) d
  passed_append [] ys d p q = q
  passed_append (x ∷ xs) ys d p q = (p.0, p.1, passed_append xs ys d p.2 q)

  -- the first action of its byte behind actions that it passes, and clear
  pub passed_next : (xs : List D) (d : D) (ys : List D) (t : ℕ) → who d ≡ t → Passed xs d → next_of who dependent (xs ++ (d ∷ ys)) t ≡ some d
  passed_next [] d ys t q p = next_same who dependent d ys t q
  passed_next (x ∷ xs) d ys t q p = next_other who dependent x (xs ++ (d ∷ ys)) t (λ i. p.0 (i ∙ sym q)) ∙ passed_next xs d ys t q p.2

  pub passed_clear : (xs : List D) (d : D) (ys : List D) (t : ℕ) → who d ≡ t → Passed xs d → clear who dependent (xs ++ (d ∷ ys)) t d ≡ true
  passed_clear [] d ys t q p = clear_same who dependent d ys t d q
  passed_clear (x ∷ xs) d ys t q p = clear_more who dependent x (xs ++ (d ∷ ys)) t d (λ i. p.0 (i ∙ sym q)) p.1 (passed_clear xs d ys t q p.2)
