-- What the two calls say in a word and leave in what they are lent. The call that gives the member number k says what start says, `listed`.
use Rattle.std.specs.Prelude.{ℕ, List}
use Rattle.spec_schedules.specs.Calls.{Answer, found, nomore, refused}
use Rattle.spec_calls.specs.Scratch.{zeros}
use Rattle.spec_calls.specs.Word as word
use Rattle.spec_members.specs.Rank.{Ranked, ranked, refused_rank}

-- the scratch behind the member number k: zeros where the call answered, what was there where it refused
unfoldable pub kth_scratch : Answer → List ℕ → List ℕ
kth_scratch (found s) scratch = zeros scratch
kth_scratch nomore scratch = zeros scratch
kth_scratch (refused n k) scratch = scratch

-- the number of a schedule: answered, with nothing written to an output, or the refusal
unfoldable pub rank_reply : Ranked → word.Reply
rank_reply (ranked n) = word.answered 0
rank_reply (refused_rank n k) = word.refused n k

-- the word that is lent for the number; a refusal leaves it as it was
unfoldable pub rank_later : Ranked → ℕ → ℕ
rank_later (ranked n) old = n
rank_later (refused_rank n k) old = old

-- the scratch behind it
unfoldable pub rank_scratch : Ranked → List ℕ → List ℕ
rank_scratch (ranked n) scratch = zeros scratch
rank_scratch (refused_rank n k) scratch = scratch
