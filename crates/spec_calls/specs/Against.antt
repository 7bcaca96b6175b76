-- What the call over two files says: nothing for covered; answered, with the schedule's length; the refusal of the first file or of the
-- output; or that of the second file.
use Rattle.std.specs.Prelude.{length}
use Rattle.spec_covers.specs.Answer.{Answer, covered, lacking, first_refused, second_refused, output_refused}
use Rattle.spec_calls.specs.Word as word

unfoldable pub covers_reply : Answer → word.Reply
covers_reply covered = word.nothing
covers_reply (lacking s) = word.answered (length s)
covers_reply (first_refused n k) = word.refused n k
covers_reply (second_refused n k) = word.second_refused n k
covers_reply (output_refused n k) = word.refused n k
