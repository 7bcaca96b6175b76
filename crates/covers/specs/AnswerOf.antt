-- The call's answer as the code gives it: covered; or the schedule's length, since the schedule itself stands in front of the output; or
-- the refusal, and whose it is.
use Rattle.std.specs.Prelude.{ℕ, length, Option, Some, None, Result, Ok, Err}
use Rattle.spec_covers.specs.Answer.{Answer, covered, lacking, first_refused, second_refused, output_refused}
use Rattle.covers.specs.declared.covers_call.CoversRefusal.{CoversRefusal}
use Rattle.covers.specs.declared.covers_call.CoversRefusal.TheVariants.{First, Second, Output}

unfoldable pub covers_answer_of : Answer → Result (Option ℕ) CoversRefusal
covers_answer_of covered = Ok None
covers_answer_of (lacking s) = Ok (Some (length s))
covers_answer_of (first_refused n k) = Err (First (record { number = n; place = k }))
covers_answer_of (second_refused n k) = Err (Second (record { number = n; place = k }))
covers_answer_of (output_refused n k) = Err (Output (record { number = n; place = k }))
