-- The answer to how many are smaller, as the code gives it: the number, or the refusal.
use Rattle.std.specs.Prelude.{ℕ, Result, Ok, Err}
use Rattle.spec_file.specs.declared.refusal.Refusal.{Refusal}
use Rattle.spec_members.specs.Rank.{Ranked, ranked, refused_rank}

unfoldable pub rank_answer_of : Ranked → Result ℕ Refusal
rank_answer_of (ranked n) = Ok n
rank_answer_of (refused_rank n k) = Err (record { number = n; place = k })
