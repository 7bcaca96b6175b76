-- The seven calls. What a call answers goes by what the four records read as; what it leaves in the records, in the number of the
-- caller served last and in an output goes by its answer. A refusal changes nothing.
use Rattle.std.specs.Prelude.{ℕ, ◌+◌, ◌%◌, Bool, true, false, cond, not, List, [], ◌∷◌, map, eqb, ltb, length, get_or, set}
use Rattle.std.proofs.Math.Option.{Option, none, some}
use Rattle.spec_file.specs.Over.{over}
use Rattle.spec_file.specs.Program.{Program}
use Rattle.spec_file.specs.Decode.{Decoded, accepted, decode}
use Rattle.spec_file.specs.Decode as File
use Rattle.spec_schedules.specs.Lists.{head_of, find}
use Rattle.spec_schedules.specs.Order.{Schedule}
use Rattle.spec_schedules.specs.Calls.{short}
use Rattle.spec_service.specs.declared.caller.Caller.{Caller}
use Rattle.spec_service.specs.declared.caller.Mark.{Mark}
use Rattle.spec_service.specs.Seat.{Seat, closed, active, to_come, is_open, asks}
use Rattle.spec_service.specs.Record.{reading, fresh, opened, asked, served}
use Rattle.spec_service.specs.Marks.{is_some, name_fits, slot_of, slot_for, mark_set, mark_forgotten, mark_returned}

-- open for this caller with this file; ask; serve, with this output; close; set, return to and forget a mark of this name
pub data Call : Type 0 where
  open_for : ℕ → List ℕ → Call
  ask_for : ℕ → Call
  serve : List ℕ → Call
  close_for : ℕ → Call
  set_mark : ℕ → List ℕ → Call
  return_to : ℕ → List ℕ → Call
  forget : ℕ → List ℕ → Call

-- done; a schedule for this caller, or no more for it; nobody asks; refused, by this number at this place
pub data Answer : Type 0 where
  done : Answer
  given : ℕ → Schedule → Answer
  ended : ℕ → Answer
  idle : Answer
  refused : ℕ → ℕ → Answer

-- what goes into a call and comes out of it: the records, and the caller served last
pub record Shared : Type 0 where
  pub callers : List Caller
  pub last : ℕ

-- four fresh records; before any serve the last caller is 3
unfoldable pub start : Shared
start = record { callers = fresh ∷ fresh ∷ fresh ∷ fresh ∷ []; last = 3 }

-- what caller k's record reads as
unfoldable pub seat_of : List Caller → ℕ → Seat
seat_of cs k = reading (get_or cs k fresh)

-- ---- answers
-- 22 refuses a list that has not exactly four records, 42 a caller above 3; these come before all else
unfoldable pub checked : List Caller → ℕ → Answer → Answer
checked cs k a = cond (not (eqb (length cs) 4)) (refused 22 0) (cond (ltb 3 k) (refused 42 0) a)

-- 43 refuses to open for an open caller; then come the file's refusals
unfoldable pub opened_by : Decoded → Answer
opened_by (accepted p) = done
opened_by (File.refused n k) = refused n k

unfoldable pub open_answer : List Caller → ℕ → List ℕ → Answer
open_answer cs k f = checked cs k (cond (is_open (seat_of cs k)) (refused 43 0) (opened_by (decode f)))

-- 44 refuses to ask, or to close, for a closed caller
unfoldable pub open_only : List Caller → ℕ → Answer
open_only cs k = checked cs k (cond (is_open (seat_of cs k)) done (refused 44 0))

-- what f says of an open seat's program; z of a closed seat
unfoldable pub by_program : {A : Type 0} → Seat → A → (Program → A) → A
by_program closed z f = z
by_program (active p x a) z f = f p

-- what a call on marks answers: 44 for a closed caller, 45 for a name that has not 1 to 8 bytes, and then what f says of the caller's
-- program
unfoldable pub marks_only : List Caller → ℕ → List ℕ → (Program → Answer) → Answer
marks_only cs k n f = checked cs k (by_program (seat_of cs k) (refused 44 0) (λ p. cond (name_fits (length n)) (f p) (refused 45 0)))

unfoldable pub done_if : Bool → ℕ → Answer
done_if b n = cond b done (refused n 0)

unfoldable pub marks_of : List Caller → ℕ → List Mark
marks_of cs k = (get_or cs k fresh).marks

-- 47 refuses to set a ninth name
unfoldable pub set_answer : List Caller → ℕ → List ℕ → Answer
set_answer cs k n = marks_only cs k n (λ p. done_if (is_some (slot_for p n (marks_of cs k))) 47)

-- 46 refuses to return to an unknown name, or to forget it
unfoldable pub known_only : List Caller → ℕ → List ℕ → Answer
known_only cs k n = marks_only cs k n (λ p. done_if (is_some (slot_of p n (marks_of cs k))) 46)

-- a number above 3 is read as 3
unfoldable pub last_read : ℕ → ℕ
last_read n = cond (ltb 3 n) 3 n

-- the callers in turn after this one, 0 after 3
unfoldable pub in_turn : ℕ → List ℕ
in_turn n = map (λ d. (last_read n + d) % 4) (1 ∷ 2 ∷ 3 ∷ 4 ∷ [])

-- the next asking caller after the last one served
unfoldable pub next_asking : List Caller → ℕ → Option ℕ
next_asking cs n = find (λ k. asks (seat_of cs k)) (in_turn n)

-- what there is for a caller: the first of what is yet to come of its list
unfoldable pub for_seat : Seat → Option Schedule
for_seat closed = none
for_seat (active p x a) = head_of (to_come p x)

unfoldable pub handed_to : ℕ → Option Schedule → Answer
handed_to k (some s) = given k s
handed_to k none = ended k

unfoldable pub served_to : List Caller → Option ℕ → Answer
served_to cs none = idle
served_to cs (some k) = handed_to k (for_seat (seat_of cs k))

-- 22 also refuses an output of fewer than 24 bytes
unfoldable pub serve_answer : List Caller → ℕ → List ℕ → Answer
serve_answer cs n out = cond (not (eqb (length cs) 4)) (refused 22 0) (cond (short 24 out) (refused 22 0) (served_to cs (next_asking cs n)))

unfoldable pub answer_to : Call → Shared → Answer
answer_to (open_for k f) σ = open_answer σ.callers k f
answer_to (ask_for k) σ = open_only σ.callers k
answer_to (serve out) σ = serve_answer σ.callers σ.last out
answer_to (close_for k) σ = open_only σ.callers k
answer_to (set_mark k n) σ = set_answer σ.callers k n
answer_to (return_to k n) σ = known_only σ.callers k n
answer_to (forget k n) σ = known_only σ.callers k n

-- ---- what is left behind an answer
-- a caller's record with something done to it by its program
unfoldable pub changed : List Caller → ℕ → (Program → Caller → Caller) → List Caller
changed cs k f = set cs k (by_program (seat_of cs k) (get_or cs k fresh) (λ p. f p (get_or cs k fresh)))

-- the records behind a call that was done
unfoldable pub callers_done : Call → List Caller → List Caller
callers_done (open_for k f) cs = set cs k (opened f)
callers_done (ask_for k) cs = set cs k (asked (get_or cs k fresh))
callers_done (serve out) cs = cs
callers_done (close_for k) cs = set cs k fresh
callers_done (set_mark k n) cs = changed cs k (λ p. mark_set p n)
callers_done (return_to k n) cs = changed cs k (λ p. mark_returned p n)
callers_done (forget k n) cs = changed cs k (λ p. mark_forgotten p n)

unfoldable pub callers_after : Call → Answer → List Caller → List Caller
callers_after c done cs = callers_done c cs
callers_after c (given k s) cs = set cs k (served (get_or cs k fresh) (some s))
callers_after c (ended k) cs = set cs k (served (get_or cs k fresh) none)
callers_after c idle cs = cs
callers_after c (refused n k) cs = cs

-- the caller served last: given back as it is read, save by a refusal
unfoldable pub last_after : Answer → ℕ → ℕ
last_after done n = last_read n
last_after (given k s) n = k
last_after (ended k) n = k
last_after idle n = last_read n
last_after (refused m k) n = n

-- an output: a schedule stands over its front
unfoldable pub output_after : Answer → List ℕ → List ℕ
output_after done out = out
output_after (given k s) out = over s out
output_after (ended k) out = out
output_after idle out = out
output_after (refused m k) out = out

unfoldable pub after : Call → Shared → Shared
after c σ = let a = answer_to c σ in record {
  callers = callers_after c a σ.callers;
  last = last_after a σ.last;
}
