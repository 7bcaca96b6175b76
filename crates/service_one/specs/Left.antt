-- What a call that is no serve leaves of its caller's record.
use Rattle.std.specs.Prelude.{ℕ, ◌≡◌, List, set, Result, MatchResult}
use Rattle.spec_file.specs.declared.refusal.Refusal.{Refusal}
use Rattle.spec_service.specs.declared.caller.Caller.{Caller}
use Rattle.spec_service.specs.Call.{Call, done, refused, answer_to, callers_done}
use Rattle.spec_service.specs.Reply.{shared}

-- of the call c on the list cs: done, and this record put back at k is what it leaves; or refused so
abbrev pub Left : Call → List Caller → ℕ → Result Caller Refusal → Type 0
Left c cs k r = (m : ℕ) → MatchResult r
    (λ x. (answer_to c (shared cs m) ≡ done) × (set cs k x ≡ callers_done c cs))
    (λ e. answer_to c (shared cs m) ≡ refused e.number e.place)
