-- The answer to who can force, as the code gives it.
use Rattle.std.specs.Prelude.{Result, Ok, Err}
use Rattle.spec_file.specs.declared.refusal.Refusal.{Refusal}
use Rattle.force.specs.declared.answering.Winner.{Winner}
use Rattle.force.specs.declared.answering.Winner.TheVariants.{Hostile, Friendly}
use Rattle.spec_calls.specs.Word as word

-- what the force call says, by the answer as the code gives it
unfoldable pub forcing_reply : Result Winner Refusal → word.Reply
forcing_reply (Ok (Hostile n)) = word.answered n
forcing_reply (Ok Friendly) = word.nothing
forcing_reply (Err r) = word.refused r.number r.place
