-- The answers of the calls that give a schedule, as the code gives them: the schedule's length, since the schedule itself stands in front
-- of the output; or that there is none; or the refusal.
use Rattle.std.specs.Prelude.{ℕ, length, Option, Some, None, Result, Ok, Err}
use Rattle.std.proofs.Math.Option as Math
use Rattle.spec_file.specs.declared.refusal.Refusal.{Refusal}
use Rattle.spec_schedules.specs.Order.{Schedule}
use Rattle.spec_schedules.specs.Calls.{Answer, found, nomore, refused}
use Rattle.spec_model.specs.Answers.{Violation, fails_first, none_fails, refused_by}

-- the length of the schedule that there is to answer, if there is one
unfoldable pub length_of : Math.Option Schedule → Option ℕ
length_of Math.none = None
length_of (Math.some s) = Some (length s)

-- the answer of start and continue
unfoldable pub list_answer_of : Answer → Result (Option ℕ) Refusal
list_answer_of (found s) = Ok (Some (length s))
list_answer_of nomore = Ok None
list_answer_of (refused n k) = Err (record { number = n; place = k })

-- the answer of violation
unfoldable pub violation_answer_of : Violation → Result (Option ℕ) Refusal
violation_answer_of (fails_first s) = Ok (Some (length s))
violation_answer_of none_fails = Ok None
violation_answer_of (refused_by n k) = Err (record { number = n; place = k })
