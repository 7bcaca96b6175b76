-- What a reader takes out of a word of four callers.
use mathlib.Core.Path.{◌≡◌}
use Prim.Native.Nat.{ℕ, ◌<◌, ◌^◌}
use native.Mathlib.Omega.{arith}
use Rattle.spec_service.specs.declared.reply.Reply.TheVariants.{Given as Gave, Ended, Idle}
use Rattle.std.specs.Prelude.{Ok}
use Rattle.spec_calls.specs.Word.{word_of, kind_in}
use Rattle.spec_calls.specs.Users.{user_word, caller_in, length_in}

-- ---- what is read out of a serve's word
pub given_read : (k n : ℕ) → k < 256 → n < 2 ^ 40 → (kind_in (user_word (Ok (Gave k n))) ≡ 1) × (caller_in (user_word (Ok (Gave k n))) ≡ k) × (length_in (user_word (Ok (Gave k n))) ≡ n)
unfolding user_word word_of kind_in caller_in length_in
given_read k n h l = (omega arith, omega arith, omega arith)

pub ended_read : (k : ℕ) → k < 256 → (kind_in (user_word (Ok (Ended k))) ≡ 2) × (caller_in (user_word (Ok (Ended k))) ≡ k) × (length_in (user_word (Ok (Ended k))) ≡ 0)
unfolding user_word kind_in caller_in length_in
ended_read k h = (omega arith, omega arith, omega arith)

pub idle_read : kind_in (user_word (Ok Idle)) ≡ 5
unfolding user_word kind_in
idle_read = omega arith
