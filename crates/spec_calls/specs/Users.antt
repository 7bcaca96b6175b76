-- What the calls of four callers say: the word of an answer, and all that a call does, by the definitions of `spec_service`.
use Rattle.std.specs.Prelude.{ℕ, ◌+◌, ◌*◌, ◌/◌, ◌%◌, ◌^◌, ◌≡◌, List, Result, Ok, Err}
use Rattle.spec_file.specs.declared.refusal.Refusal.{Refusal}
use Rattle.spec_service.specs.Call.{Call, serve, Shared, answer_to, after, output_after}
use Rattle.spec_service.specs.declared.reply.Reply.{Reply}
use Rattle.spec_service.specs.declared.reply.Reply.TheVariants.{Done, Given, Ended, Idle}
use Rattle.spec_service.specs.Reply.{reply_of}
use Rattle.spec_calls.specs.Word.{answered, refused, word_of}

-- done: kind 1, and all else 0; a schedule: kind 1, bits 40 to 47 the caller, bits 0 to 39 the length; no more: kind 2, the caller
-- likewise; nobody asks: kind 5; a refusal as any other call's
unfoldable pub user_word : Result Reply Refusal → ℕ
user_word (Ok Done) = word_of (answered 0)
user_word (Ok (Given k n)) = word_of (answered ((k % 256) * 2 ^ 40 + n % 2 ^ 40))
user_word (Ok (Ended k)) = 2 * 2 ^ 56 + (k % 256) * 2 ^ 40
user_word (Ok Idle) = 5 * 2 ^ 56
user_word (Err r) = word_of (refused r.number r.place)

-- the call c says the word w and leaves the records and the last caller σ'
abbrev pub Says : Call → Shared → ℕ → Shared → Type 0
Says c σ w σ' = (w ≡ user_word (reply_of (answer_to c σ))) × (σ' ≡ after c σ)

-- a serve says the word w, leaves the records and the last caller σ', and leaves out' in its output
abbrev pub ServeSays : List ℕ → Shared → ℕ → Shared → List ℕ → Type 0
ServeSays out σ w σ' out' =
    (w ≡ user_word (reply_of (answer_to (serve out) σ))) × (σ' ≡ after (serve out) σ)
    × (out' ≡ output_after (answer_to (serve out) σ) out)

-- what a reader takes out of a serve's word: bits 40 to 47, bits 0 to 39
unfoldable pub caller_in : ℕ → ℕ
caller_in w = w / 2 ^ 40 % 256

unfoldable pub length_in : ℕ → ℕ
length_in w = w % 2 ^ 40
