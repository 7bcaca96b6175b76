-- Whom a serve is about, and what it keeps of that caller's record.
use Rattle.std.specs.Prelude.{ℕ, ◌≡◌, Bool, List, [], ◌∷◌, length, get_or, set, Option, Some, None, Result, Ok, Err, MatchResult}
use Rattle.std.proofs.Math.Option as Math
use Rattle.spec_file.specs.declared.refusal.Refusal.{Refusal}
use Rattle.spec_schedules.specs.Order.{Schedule}
use Rattle.spec_service.specs.declared.caller.Caller.{Caller}
use Rattle.spec_service.specs.declared.reply.Reply.{Reply}
use Rattle.spec_service.specs.declared.reply.Reply.TheVariants.{Given, Ended}
use Rattle.spec_service.specs.Seat.{asks}
use Rattle.spec_service.specs.Record.{reading, fresh, served}
use Rattle.spec_service.specs.Call.{serve, Answer, done, given, ended, idle, refused, serve_answer, callers_after, output_after}
use Rattle.spec_service.specs.Reply.{reply_of}

-- whether the caller k of a list asks
abbrev pub asks_at : List Caller → ℕ → Bool
asks_at cs k = asks (reading (get_or cs k fresh))

-- which of a list's first four callers ask
abbrev pub Asking : List Caller → List Bool → Type 0
Asking cs l = l ≡ asks_at cs 0 ∷ asks_at cs 1 ∷ asks_at cs 2 ∷ asks_at cs 3 ∷ []

-- a caller's number, or none
unfoldable pub number_of : Math.Option ℕ → Option ℕ
number_of Math.none = None
number_of (Math.some k) = Some k

-- whom a serve is about, by its answer: a caller, or none where nobody asks, or the refusal; a serve is never just done
unfoldable pub turn_of : Answer → Result (Option ℕ) Refusal
turn_of done = Ok None
turn_of (given k s) = Ok (Some k)
turn_of (ended k) = Ok (Some k)
turn_of idle = Ok None
turn_of (refused n m) = Err (record { number = n; place = m })

-- caller k's record c behind what there was for it, and the reply
unfoldable pub kept_for : ℕ → Caller → Math.Option Schedule → Caller × Reply
kept_for k c (Math.some s) = (served c (Math.some s), Given k (length s))
kept_for k c Math.none = (served c Math.none, Ended k)

-- a serve of the list cs, whose last caller is m, answers r and leaves out' in its output: this reply, and this record put back at k is what
-- it leaves of the list; it is not refused
abbrev pub Leaves : List Caller → ℕ → List ℕ → ℕ → Result Reply Refusal → Caller → List ℕ → Type 0
Leaves cs m out k r c out' =
    MatchResult r
    (λ o. (Ok o ≡ reply_of (serve_answer cs m out))
    × (set cs k c ≡ callers_after (serve out) (serve_answer cs m out) cs)
    × (out' ≡ output_after (serve_answer cs m out) out))
    (λ e. ⊥)
