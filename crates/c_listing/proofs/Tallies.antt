-- What the listing's answer to count says.
use mathlib.Core.Path.{◌≡◌, refl}
use Rattle.std.specs.Prelude.{ℕ, Ok, Err}
use Rattle.spec_file.specs.declared.refusal.Refusal.{Refusal}
use Rattle.states_memory.specs.declared.tally.Tally.{Tally}
use Rattle.spec_model.specs.OnFile.{Count, counted, refused_count}
use Rattle.listing.specs.CountWord.{count_answer_of}
use Rattle.spec_calls.specs.Word as word
use Rattle.spec_calls.specs.Tallied.{count_reply, listed_later, failing_later}

pub tallied_counted : (c : Count) (t : Tally) (old older : ℕ) → Ok t ≡ count_answer_of c → (word.answered 0 ≡ count_reply c) × (t.listed ≡ listed_later c old) × (t.failing ≡ failing_later c older)
unfolding count_answer_of count_reply listed_later failing_later
tallied_counted (counted c) t old older e = (refl, cc, cc)
tallied_counted (refused_count i j) t old older e = cc

pub tallied_refused : (c : Count) (r : Refusal) (old older : ℕ) → Err r ≡ count_answer_of c → (word.refused r.number r.place ≡ count_reply c) × (old ≡ listed_later c old) × (older ≡ failing_later c older)
unfolding count_answer_of count_reply listed_later failing_later
tallied_refused (counted c) r old older e = cc
tallied_refused (refused_count i j) r old older e = (cc, refl, refl)
