-- What count says: answered, with nothing written to an output, or the refusal; and what the two words that it is lent hold later.
use Rattle.std.specs.Prelude.{ℕ}
use Rattle.spec_model.specs.OnFile.{Count, counted, refused_count}
use Rattle.spec_calls.specs.Word as word

unfoldable pub count_reply : Count → word.Reply
count_reply (counted c) = word.answered 0
count_reply (refused_count n k) = word.refused n k

-- the first word: how many are listed; a refusal leaves it as it was
unfoldable pub listed_later : Count → ℕ → ℕ
listed_later (counted c) old = c.listed
listed_later (refused_count n k) old = old

-- the second word: how many of these fail; a refusal leaves it as it was
unfoldable pub failing_later : Count → ℕ → ℕ
failing_later (counted c) old = c.failed
failing_later (refused_count n k) old = old
