-- The comparison's answer as the code gives it.
use Rattle.std.specs.Prelude.{ℕ, Option, Some, None, Result, Ok, Err}
use Rattle.spec_covers.specs.Answer.{second_refused}
use Rattle.covers.specs.declared.covers_call.CoversRefusal.{CoversRefusal}
use Rattle.covers.specs.declared.covers_call.CoversRefusal.TheVariants.{First, Second, Output}
use Rattle.spec_calls.specs.Word as word

-- what the covers call says, by the answer as the code gives it
unfoldable pub against_reply : Result (Option ℕ) CoversRefusal → word.Reply
against_reply (Ok (Some n)) = word.answered n
against_reply (Ok None) = word.nothing
against_reply (Err (First r)) = word.refused r.number r.place
against_reply (Err (Second r)) = word.second_refused r.number r.place
against_reply (Err (Output r)) = word.refused r.number r.place
