-- The answer as the call hands it over: yes with the number of steps of the schedule that stands in front of the output, no, or a refusal.
use Rattle.std.specs.Prelude.{ℕ, length, Option, Some, None, Result, Ok, Err}
use Rattle.spec_file.specs.declared.refusal.Refusal.{Refusal}
use Rattle.spec_judge.specs.Answer.{Answer, consistent, inconsistent, refusing}

unfoldable pub outcome_of : Answer → Result (Option ℕ) Refusal
outcome_of (consistent s) = Ok (Some (length s))
outcome_of inconsistent = Ok None
outcome_of (refusing n k) = Err (record { number = n; place = k })
