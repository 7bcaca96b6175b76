-- What is promised of sequential consistency beside demand 3: an output of 24 bytes is enough, the counts are exact, a program without
-- threads has one execution; and the list and the judge agree: a listed schedule is the judge's own answer to its graph's text, and each
-- consistent graph is, up to exchange, that of exactly one listed schedule.
use Rattle.std.specs.Prelude.{◌≡◌, ℕ, ◌^◌, ◌<◌, ◌≤◌, ◌↔◌, List, [], ◌∷◌, length, take, drop, Option, Result}
use Rattle.spec_file.specs.Program.{Program}
use Rattle.spec_schedules.specs.Lists.{filter}
use Rattle.spec_schedules.specs.Order.{Schedule}
use Rattle.spec_model.specs.Model.{failing}
use Rattle.spec_model.specs.Alike.{list_of}
use Rattle.spec_model.specs.Answers.{refused_by}
use Rattle.spec_model.specs.OnFile.{counted, count_file, violation_file}
use Rattle.spec_model.specs.Exchange.{Exchange}
use Rattle.spec_sc.specs.Graph.{Graph, graph}
use Rattle.spec_sc.specs.Exchange.{Renames}
use Rattle.spec_sc.specs.Sequential.{sc}
use Rattle.spec_judge.specs.Consistent.{Consistent}
use Rattle.spec_judge.specs.Answer.{Answer, consistent, Judgement, output_after}
use Rattle.spec_judge.specs.Demand2.{text_for}
use Rattle.spec_file.specs.declared.refusal.Refusal.{Refusal}
use Rattle.judge.specs.Call.{outcome_of}
use Rattle.listing.specs.Demand3.{InList}

-- what the contract of the judge lets it answer to a text, with this output before the call and this one behind it
abbrev pub Judges : List ℕ → List ℕ → List ℕ → Result (Option ℕ) Refusal → List ℕ → Type 0
Judges file text out r later = (a : Answer) × Judgement file text (length out) a × (r ≡ outcome_of a) × (later ≡ output_after a out)

-- the schedule's graph is this one, up to exchanging threads declared alike
abbrev pub UpToExchange : Program → Schedule → Graph → Type 0
UpToExchange p s g = (π : ℕ → ℕ) × Exchange p π × Renames π (graph p s) g

pub record Sequential (file : List ℕ) (p : Program) : Type 0 where
  -- 24 BYTES are enough: violation answers 22 exactly when its output is shorter
  pub bytes : (out : List ℕ) → (violation_file sc file out ≡ (refused_by 22 0, out)) ↔ (length out < 24)
  -- each listed schedule has at most 24 steps
  pub within : (s : Schedule) → InList sc p s → length s ≤ 24
  -- COUNTS ARE EXACT: the list's length fits 64 bits
  pub fits : length (list_of sc p) < 2 ^ 63
  -- the count call answers the length of the list and the number of its members that fail, without a remainder
  pub counts : count_file sc file ≡ counted (record { listed = length (list_of sc p); failed = length (filter (failing sc p) (list_of sc p)) })
  -- WITHOUT THREADS the empty schedule alone is listed
  pub none_list : p.threads ≡ [] → list_of sc p ≡ [] ∷ []
  -- THE JUDGE ANSWERS THE LISTED SCHEDULE to its graph's text: yes, and this schedule stands in front of the output's old rest
  pub judged : (s : Schedule) → InList sc p s → (out : List ℕ) → 24 ≤ length out → (r : Result (Option ℕ) Refusal) (later : List ℕ) →
      Judges file (text_for p s) out r later →
      (r ≡ outcome_of (consistent s)) × (take (length s) later ≡ s) × (drop (length s) later ≡ drop (length s) out)
  -- EACH CONSISTENT GRAPH is, up to exchange, that of exactly one listed schedule
  pub one_consistent : (g : Graph) → Consistent p g →
      (s : Schedule) × InList sc p s × UpToExchange p s g × ((q : Schedule) → InList sc p q → UpToExchange p q g → q ≡ s)
