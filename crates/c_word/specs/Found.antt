-- What a call says that answers a schedule in front of its output, or none, by the answer as the code gives it.
use Rattle.std.specs.Prelude.{ℕ, Option, Some, None, Result, Ok, Err}
use Rattle.spec_file.specs.declared.refusal.Refusal.{Refusal}
use Rattle.spec_calls.specs.Word as word

unfoldable pub reply_of : Result (Option ℕ) Refusal → word.Reply
reply_of (Ok (Some n)) = word.answered n
reply_of (Ok None) = word.nothing
reply_of (Err r) = word.refused r.number r.place
