-- What the call over one file says: nothing for robust; answered, with the schedule's length; or the refusal.
use Rattle.std.specs.Prelude.{length}
use Rattle.spec_calls.specs.Word as word
use Rattle.spec_across.specs.RobustCall.{Answer, robust, relaxed, refusing}

unfoldable pub robust_reply : Answer → word.Reply
robust_reply robust = word.nothing
robust_reply (relaxed s) = word.answered (length s)
robust_reply (refusing n k) = word.refused n k
