-- What the check of a program file says: answered, with nothing written, or the refusal.
use Rattle.spec_file.specs.Decode.{Decoded, accepted, refused}
use Rattle.spec_calls.specs.Word as word

unfoldable pub check_reply : Decoded → word.Reply
check_reply (accepted p) = word.answered 0
check_reply (refused k n) = word.refused k n
