-- A list of schedules walked by calls. Each call has an output of its own; until a schedule has been answered it is a start, from then on a
-- continue from the schedule answered last. Refused, with 22 at place 0, are exactly the calls whose output is shorter than `need`.
-- `called` is what one call does, and stands in the contracts of start and continue; `Dialogue` says that each call did so, from what the
-- calls before it answered; `due` is what the whole list of calls is to give. That they agree is the one claim about a list of calls.
use Rattle.std.specs.Prelude.{ℕ, zero, suc, Bool, true, false, ltb, length}
use Rattle.std.proofs.Math.Option.{Option, none, some}
use mathlib.Core.List.{List, [], ◌∷◌, tail}
use Rattle.spec_file.specs.Over.{over}
use Rattle.spec_schedules.specs.Lists.{head_of}
use Rattle.spec_schedules.specs.Order.{Schedule, less}

-- what a call answers: a schedule, no more, or a refusal with its number and place
pub data Answer : Type 0 where
  found : Schedule → Answer
  nomore : Answer
  refused : ℕ → ℕ → Answer

-- the least member after s, whether s is a member or not
unfoldable pub next : List Schedule → Schedule → Option Schedule
next [] s = none
next (x ∷ xs) s = elim (less s x) [ true ↦ some x | false ↦ next xs s ]

-- what there is to answer: at a start the least member, at a continue the least after the schedule given
unfoldable pub offer : List Schedule → Option Schedule → Option Schedule
offer l none = head_of l
offer l (some s) = next l s

-- the answer, by whether the output is too short and what there is to answer
unfoldable pub answer_to : Bool → Option Schedule → Answer
answer_to true o = refused 22 0
answer_to false none = nomore
answer_to false (some s) = found s

-- the output behind an answer: a schedule stands in front of the old rest, and nothing else changes a byte
unfoldable pub content : Answer → List ℕ → List ℕ
content (found s) out = over s out
content nomore out = out
content (refused n p) out = out

-- whether an output is too short
abbrev pub short : ℕ → List ℕ → Bool
short need out = ltb (length out) need

-- an answer with the output behind it
abbrev pub Result : Type 0
Result = Answer × List ℕ

abbrev pub result : Answer → List ℕ → Result
result a out = (a, content a out)

-- what one call answers and leaves in its output, after the schedule o was answered last (none: a start)
abbrev pub called : ℕ → List Schedule → Option Schedule → List ℕ → Result
called need l o out = result (answer_to (short need out) (offer l o)) out

-- the schedule answered last, behind an answer
unfoldable pub last : Option Schedule → Answer → Option Schedule
last o (found s) = some s
last o nomore = o
last o (refused n p) = o

-- what is left to answer behind a call
unfoldable pub left : Bool → List Schedule → List Schedule
left true l = l
left false l = tail l

-- the results that are due: each call that is not refused takes the next member, and no more when none is left
unfoldable pub due : ℕ → List Schedule → List (List ℕ) → List Result
due need l [] = []
due need l (out ∷ outs) = result (answer_to (short need out) (head_of l)) out ∷ due need (left (short need out) l) outs

-- how many of these calls are not refused
unfoldable pub served : ℕ → List (List ℕ) → ℕ
served need [] = 0
served need (out ∷ outs) = elim (short need out) [ true ↦ served need outs | false ↦ suc (served need outs) ]

-- the k-th member, from 0; no more if there are not so many
unfoldable pub member : List Schedule → ℕ → Option Schedule
member [] k = none
member (x ∷ l) zero = some x
member (x ∷ l) (suc k) = member l k
