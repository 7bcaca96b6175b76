-- What the calls that give a listed schedule say: answered, with the schedule's length; nothing for no more or none; or the refusal.
use Rattle.std.specs.Prelude.{length}
use Rattle.spec_schedules.specs.Calls.{Answer, found, nomore, refused}
use Rattle.spec_model.specs.Answers.{Violation, fails_first, none_fails, refused_by}
use Rattle.spec_calls.specs.Word as word

-- start and continue
unfoldable pub listed : Answer → word.Reply
listed (found s) = word.answered (length s)
listed nomore = word.nothing
listed (refused n k) = word.refused n k

-- violation
unfoldable pub violation_reply : Violation → word.Reply
violation_reply (fails_first s) = word.answered (length s)
violation_reply none_fails = word.nothing
violation_reply (refused_by n k) = word.refused n k
