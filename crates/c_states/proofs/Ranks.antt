-- What the answer to how many are smaller says, in a word and in the word that is lent for the number.
use mathlib.Core.Path.{◌≡◌, refl}
use Rattle.std.specs.Prelude.{ℕ, Ok, Err}
use Rattle.spec_file.specs.declared.refusal.Refusal.{Refusal}
use Rattle.spec_calls.specs.Word as word
use Rattle.spec_members.specs.Rank.{Ranked, ranked, refused_rank}
use Rattle.spec_members.specs.Said.{rank_reply, rank_later}
use Rattle.member_call.specs.RankWord.{rank_answer_of}

pub said_ranked : (r : Ranked) (n old : ℕ) → Ok n ≡ rank_answer_of r → (word.answered 0 ≡ rank_reply r) × (n ≡ rank_later r old)
unfolding rank_answer_of rank_reply rank_later
said_ranked (ranked m) n old e = (refl, cc)
said_ranked (refused_rank i j) n old e = cc

pub said_refused : (r : Ranked) (q : Refusal) (old : ℕ) → Err q ≡ rank_answer_of r → (word.refused q.number q.place ≡ rank_reply r) × (old ≡ rank_later r old)
unfolding rank_answer_of rank_reply rank_later
said_refused (ranked m) q old e = cc
said_refused (refused_rank i j) q old e = (cc, refl)
