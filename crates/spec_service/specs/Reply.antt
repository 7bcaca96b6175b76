-- What a call does, by the definitions of `spec_service`: the answer as the code gives it, and the later content of all that is lent.
use Rattle.std.specs.Prelude.{ℕ, ◌≡◌, List, length, Result, Ok, Err}
use Rattle.spec_file.specs.declared.refusal.Refusal.{Refusal}
use Rattle.spec_service.specs.declared.caller.Caller.{Caller}
use Rattle.spec_service.specs.Call.{Call, serve, Answer, done, given, ended, idle, refused, Shared, answer_to, after, output_after}
use Rattle.spec_service.specs.declared.reply.Reply.{Reply}
use Rattle.spec_service.specs.declared.reply.Reply.TheVariants.{Done, Given, Ended, Idle}

-- the reply to an answer: of a schedule its length, since the schedule itself stands in front of the output
unfoldable pub reply_of : Answer → Result Reply Refusal
reply_of done = Ok Done
reply_of (given k s) = Ok (Given k (length s))
reply_of (ended k) = Ok (Ended k)
reply_of idle = Ok Idle
reply_of (refused n k) = Err (record { number = n; place = k })

-- the records and the last caller served
abbrev pub shared : List Caller → ℕ → Shared
shared cs m = record { callers = cs; last = m }

-- the call c answers r and leaves the records and the last caller σ'
abbrev pub Does : Call → Shared → Result Reply Refusal → Shared → Type 0
Does c σ r σ' = (r ≡ reply_of (answer_to c σ)) × (σ' ≡ after c σ)

-- a serve answers r, leaves the records and the last caller σ', and leaves out' in its output
abbrev pub Served : List ℕ → Shared → Result Reply Refusal → Shared → List ℕ → Type 0
Served out σ r σ' out' =
    (r ≡ reply_of (answer_to (serve out) σ)) × (σ' ≡ after (serve out) σ) × (out' ≡ output_after (answer_to (serve out) σ) out)
