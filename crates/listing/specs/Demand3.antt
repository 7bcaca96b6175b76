-- DEMAND 3, the listing's promise about a file that a memory model lists, as one claim. p is the program that the file is read as, `list_of
-- M p` its list; `start_file`, `continue_file`, `count_file` and `violation_file` are what the contracts of the four calls equate their answers
-- and the later contents of their outputs with.
use Rattle.std.specs.Prelude.{◌≡◌, ℕ, ◌%◌, ◌^◌, ◌<◌, ◌≤◌, true, false, ◌↔◌, List, [], ◌∷◌, ◌++◌, length, take, drop}
use Rattle.std.proofs.Math.Option.{Option, none, some}
use mathlib.Core.List.{Memᴰ}
use Rattle.spec_file.specs.Over.{over}
use Rattle.spec_file.specs.Program.{Program}
use Rattle.spec_schedules.specs.Lists.{filter}
use Rattle.spec_file.specs.Lists.{Ascends}
use Rattle.spec_schedules.specs.Order.{Schedule, less}
use Rattle.spec_schedules.specs.Calls.{found, nomore, answer_to, short, Result, result, called, last, due, served, member}
use Rattle.spec_model.specs.Model.{Model, end_of, Runs, Full, failing}
use Rattle.spec_model.specs.Alike.{Alike, Listed, list_of}
use Rattle.spec_model.specs.Answers.{fails_first, none_fails, refused_by}
use Rattle.spec_model.specs.OnFile.{start_file, continue_file, counted, count_file, violation_file}

-- s is in the list of p
abbrev pub InList : (M : Model) → Program → Schedule → Type 0
InList M p s = Memᴰ s (list_of M p)

-- A list of calls on one file, each with an output of any length. Until a schedule has been answered each is a start; from then on each is
-- a continue, handed a copy of the schedule answered last, also after a refusal or a no more.
abbrev pub call : (M : Model) → List ℕ → Option Schedule → List ℕ → Result
call M file none out = start_file M file out
call M file (some s) out = continue_file M file s out

-- calls with the outputs `outs`, behind which a schedule was answered last or none, have the results `rs`
abbrev pub Called : (M : Model) → List ℕ → Option Schedule → List (List ℕ) → List Result → Type 0
Called M file before [] [] = Unit {0}
Called M file before [] (r ∷ rs) = ⊥
Called M file before (out ∷ outs) [] = ⊥
Called M file before (out ∷ outs) (r ∷ rs) = (r ≡ call M file before out) × Called M file (last before r.0) outs rs

-- the schedule is the first bytes of the output behind a call, as many as it has steps; the bytes behind it keep their value
abbrev pub InFront : Schedule → List ℕ → List ℕ → Type 0
InFront s before behind = (take (length s) behind ≡ s) × (drop (length s) behind ≡ drop (length s) before) × (length behind ≡ length before)

pub record Demand3 (M : Model) (file : List ℕ) (p : Program) : Type 0 where
  -- THE LIST has exactly the full schedules that document 01 calls listed: no smaller full schedule is alike
  pub exact : (s : Schedule) → InList M p s ↔ Listed M p s
  -- the list ascends strictly
  pub ascending : Ascends less (list_of M p)
  -- the list is finite: each step of a member is one of the names
  pub finite : length (list_of M p) ≤ length M.system.names ^ M.steps
  -- the list is never empty
  pub begins : (s : Schedule) × InList M p s
  -- each member of the list fits an output that is not refused
  pub within : (s : Schedule) → InList M p s → length s ≤ M.need
  -- EACH FULL SCHEDULE'S GRAPH equals that of exactly one listed one, up to exchanging threads declared alike
  pub one_each : (s : Schedule) → Full M p s →
      (r : Schedule) × InList M p r × Alike M p r s × ((q : Schedule) → InList M p q → Alike M p q s → q ≡ r)
  -- where one of two alike schedules fails so does the other, and both leave the same memory
  pub same_outcome : (r s : Schedule) → Full M p r → Full M p s → Alike M p r s →
      (failing M p r ≡ failing M p s) × (M.memory_of (end_of M p r) ≡ M.memory_of (end_of M p s))
  -- THE CALLS, whatever their number and outputs: what they answer, and the outputs behind them, is what is due
  pub answers : (outs : List (List ℕ)) (rs : List Result) → Called M file none outs rs → rs ≡ due M.need (list_of M p) outs
  -- EACH CALL answers 22 exactly where its output is too short; else the listed schedule whose number, from 0, is that of the calls before
  -- that were not refused, or no more if the list has fewer
  pub answer_at : (before : List (List ℕ)) (out : List ℕ) (after : List (List ℕ)) (rs : List Result) →
      Called M file none (before ++ (out ∷ after)) rs →
      (rest : List Result) × (rs ≡ due M.need (list_of M p) before
      ++ (result (answer_to (short M.need out) (member (list_of M p) (served M.need before))) out ∷ rest))
  -- A CONTINUE from any full schedule, listed or not, answers what the list has behind that schedule
  pub continues : (s : Schedule) → Full M p s → (out : List ℕ) → continue_file M file s out ≡ called M.need (list_of M p) (some s) out
  -- a continue whose output is not too short answers r exactly where r is the least listed schedule after s; r stands in front of the
  -- output's old rest
  pub continue_least : (s : Schedule) → Full M p s → (out : List ℕ) → M.need ≤ length out → (r : Schedule) →
      (continue_file M file s out ≡ (found r, over r out)) ↔
      (InList M p r × (less s r ≡ true) × ((q : Schedule) → InList M p q → less q r ≡ true → less s q ≡ false))
  -- a continue whose output is not too short answers no more exactly where no listed schedule comes after s
  pub continue_none : (s : Schedule) → Full M p s → (out : List ℕ) → M.need ≤ length out →
      (continue_file M file s out ≡ (nomore, out)) ↔ ((r : Schedule) → InList M p r → less s r ≡ false)
  -- COUNT: the list's length, and the number of its members that fail, modulo 2^64
  pub counts : count_file M file ≡
      counted (record { listed = length (list_of M p) % 2 ^ 64; failed = length (filter (failing M p) (list_of M p)) % 2 ^ 64 })
  -- VIOLATION, with an output that is not too short: the first member of the list that fails, in front of the output's old rest
  pub violation_first : (out : List ℕ) → M.need ≤ length out → (s : Schedule) → (violation_file M file out ≡ (fails_first s, over s out)) ↔
      (InList M p s × (failing M p s ≡ true) × ((r : Schedule) → InList M p r → less r s ≡ true → failing M p r ≡ false))
  -- violation, with an output that is not too short, answers that none fails exactly when no run at all fails, however far it went
  pub violation_none : (out : List ℕ) → M.need ≤ length out →
      (violation_file M file out ≡ (none_fails, out)) ↔ ((s : Schedule) → Runs M p s → failing M p s ≡ false)
  -- violation answers 22 exactly when its output is too short
  pub violation_short : (out : List ℕ) → (violation_file M file out ≡ (refused_by 22 0, out)) ↔ (length out < M.need)
  -- A SCHEDULE THAT IS ANSWERED stands in the output of a start
  pub start_stands : (out : List ℕ) (s : Schedule) → (start_file M file out).0 ≡ found s → InFront s out (start_file M file out).1
  -- a schedule that a continue answers stands in its output, from whatever schedule it goes on
  pub continue_stands : (r : Schedule) (out : List ℕ) (s : Schedule) → (continue_file M file r out).0 ≡ found s →
      InFront s out (continue_file M file r out).1
  -- a schedule that violation answers stands in its output
  pub violation_stands : (out : List ℕ) (s : Schedule) → (violation_file M file out).0 ≡ fails_first s →
      InFront s out (violation_file M file out).1
