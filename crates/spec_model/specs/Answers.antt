-- What the four calls answer on an accepted program, and the outputs behind them, in any memory model. The program's own refusals, and what
-- the model turns away, come before all of this. 22 is next: exactly where the output is shorter than the model needs, also where nothing
-- would be written.
use Rattle.std.specs.Prelude.{ℕ, suc, ◌^◌, ◌%◌, Bool, true, false, List, [], ◌∷◌, length}
use Rattle.std.proofs.Math.Option.{Option, none, some}
use Rattle.spec_file.specs.Over.{over}
use Rattle.spec_file.specs.Program.{Program}
use Rattle.spec_schedules.specs.Lists.{filter, find}
use Rattle.spec_schedules.specs.Order.{Schedule}
use Rattle.spec_schedules.specs.System.{System, ended}
use Rattle.spec_schedules.specs.Calls.{Answer, refused, offer, answer_to, short, Result, result, called}
use Rattle.spec_model.specs.Model.{Model, failing}
use Rattle.spec_model.specs.Alike.{list_of}

-- start: the least listed schedule
unfoldable pub start_of : (M : Model) → Program → List ℕ → Result
start_of M p out = called M.need (list_of M p) none out

-- what refuses a schedule, behind k steps that led to this state: 20 at its first byte that may not step, 21 with its length if it is not
-- full
unfoldable pub refuses_from : (M : System) → ℕ → M.State → Schedule → Option (ℕ × ℕ)
refuses_from M k σ [] = elim (ended M σ) [ true ↦ none | false ↦ some (21, k) ]
refuses_from M k σ (b ∷ s) = elim (M.enabled σ b) [ true ↦ refuses_from M (suc k) (M.step σ b) s | false ↦ some (20, k) ]

-- what continue says, by what refuses its schedule and what the list offers after it
unfoldable pub continued : Option (ℕ × ℕ) → Option Schedule → Answer
continued none o = answer_to false o
continued (some r) o = refused r.0 r.1

-- continue, from any full schedule, listed or not: the least listed one after it, or no more, exactly when none is
unfoldable pub continue_of : (M : Model) → Program → Schedule → List ℕ → Result
continue_of M p s out = result (elim (short M.need out) [
  | true ↦ refused 22 0
  | false ↦ continued (refuses_from M.system 0 (M.start p) s) (offer (list_of M p) (some s))
]) out

-- how many are listed, and how many of these fail
pub record Counts : Type 0 where
  pub listed : ℕ
  pub failed : ℕ

-- count, modulo 2^64; it has no output, so nothing refuses it here
unfoldable pub count_of : (M : Model) → Program → Counts
count_of M p = record { listed = length (list_of M p) % 2 ^ 64; failed = length (filter (failing M p) (list_of M p)) % 2 ^ 64 }

-- what violation says
pub data Violation : Type 0 where
  fails_first : Schedule → Violation
  none_fails : Violation
  refused_by : ℕ → ℕ → Violation

-- violation's answer by whether the output is too short, and the first listed schedule that fails
unfoldable pub violation_by : Bool → Option Schedule → Violation
violation_by true o = refused_by 22 0
violation_by false none = none_fails
violation_by false (some s) = fails_first s

-- the output behind it
unfoldable pub violation_content : Violation → List ℕ → List ℕ
violation_content (fails_first s) out = over s out
violation_content none_fails out = out
violation_content (refused_by n k) out = out

-- violation: the first listed that fails, or none
unfoldable pub violation_of : (M : Model) → Program → List ℕ → Violation × List ℕ
violation_of M p out = let v = violation_by (short M.need out) (find (failing M p) (list_of M p)) in (v, violation_content v out)
