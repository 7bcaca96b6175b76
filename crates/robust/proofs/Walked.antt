-- The answer that was found in the list of total store order.
use Rattle.std.specs.Prelude.{Option, Some, None, Result, Ok}
use Prim.Native.Nat.{ℕ, ◌≤◌}
use mathlib.Core.Path.{◌≡◌, refl, ap, ◌∙◌}
use mathlib.Core.Option as Math
use mathlib.Core.List.{List}
use native.Mathlib.Omega.{arith}
use Rattle.spec_file.specs.declared.refusal.Refusal.{Refusal}
use Rattle.spec_schedules.specs.Order.{Schedule}
use Rattle.spec_across.specs.RobustCall.{output_after}
use Rattle.spec_across.proofs.Robustness.{answer_by}
use Rattle.listing_cursor.specs.declared.steps.Steps.{Steps}
use Rattle.outcome_lists.specs.Found.{Within, steps_in, put_over}
use Rattle.robust.specs.AnswerOf.{robust_answer_of}

abbrev ok : Option ℕ → Result (Option ℕ) Refusal
ok r = Ok r

-- what is found, as the call answers it, and in the output
found_answer : (o : Math.Option Schedule) → ok (steps_in o) ≡ robust_answer_of (answer_by o)
unfolding robust_answer_of answer_by
found_answer Math.none = refl
found_answer (Math.some s) = refl

found_output : (o : Math.Option Schedule) (out : List ℕ) → put_over o out ≡ output_after (answer_by o) out
unfolding answer_by output_after
found_output Math.none out = refl
found_output (Math.some s) out = refl

pub found_put : (o x : Math.Option Schedule) → o ≡ x → (out out' : List ℕ) (r : Option ℕ) → r ≡ steps_in o → out' ≡ put_over o out
    → (ok r ≡ robust_answer_of (answer_by x)) × (out' ≡ output_after (answer_by x) out)
found_put o x e out out' r steps put = (ap ok (steps ∙ ap steps_in e) ∙ found_answer x, put ∙ ap (λ (y : Math.Option Schedule). put_over y out) e ∙ found_output x out)

-- it fits an output of 48 bytes
pub found_fits : (found : Option (Steps 48)) (n : ℕ) → Within 48 found → 48 ≤ n → Within n found
found_fits (Some s) n h k = omega (arith, h, k)
found_fits None n h k = tt
