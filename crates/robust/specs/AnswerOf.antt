-- The call's answer as the code gives it: robust; or the schedule's length, since the schedule itself stands in front of the output; or the
-- refusal.
use Rattle.std.specs.Prelude.{ℕ, length, Option, Some, None, Result, Ok, Err}
use Rattle.spec_file.specs.declared.refusal.Refusal.{Refusal}
use Rattle.spec_across.specs.RobustCall.{Answer, robust, relaxed, refusing}

unfoldable pub robust_answer_of : Answer → Result (Option ℕ) Refusal
robust_answer_of robust = Ok None
robust_answer_of (relaxed s) = Ok (Some (length s))
robust_answer_of (refusing n k) = Err (record { number = n; place = k })
