-- What the judge says: answered, with the schedule's length; nothing for no; or the refusal.
use Rattle.std.specs.Prelude.{length}
use Rattle.spec_judge.specs.Answer.{Answer, consistent, inconsistent, refusing}
use Rattle.spec_calls.specs.Word as word

unfoldable pub judged : Answer → word.Reply
judged (consistent s) = word.answered (length s)
judged inconsistent = word.nothing
judged (refusing n k) = word.refused n k
