-- One program under one memory model against another program under another. The outcome of a full schedule is the eight final values and
-- whether it fails. All full schedules count, listed or not. Under sequential consistency twice it is document 02's covering (`covers_sc`).
use Rattle.std.specs.Prelude.{◌≡◌, true}
use Rattle.spec_file.specs.Program.{Program}
use Rattle.spec_schedules.specs.Order.{Schedule, less}
use Rattle.spec_model.specs.Model.{Model, end_of, Full, failing}
use Rattle.spec_model.specs.Alike.{Listed}
use Rattle.spec_covers.specs.declared.outcome.Outcome.{Outcome}

unfoldable pub outcome_under : (M : Model) → Program → Schedule → Outcome
outcome_under M p s = record { memory = M.memory_of (end_of M p s); fails = failing M p s }

-- it is the outcome of some full schedule of p under M
abbrev pub AttainsUnder : (M : Model) → Program → Outcome → Type 0
AttainsUnder M p o = (s : Schedule) × Full M p s × (outcome_under M p s ≡ o)

-- p under M covers q under N: each outcome of q there is one of p here
abbrev pub CoversUnder : (M : Model) → Program → (N : Model) → Program → Type 0
CoversUnder M p N q = (o : Outcome) → AttainsUnder N q o → AttainsUnder M p o

-- s is the first listed schedule of q under N with an outcome that p under M lacks
pub record FirstLackingUnder (M : Model) (p : Program) (N : Model) (q : Program) (s : Schedule) : Type 0 where
  pub listed : Listed N q s
  pub lacks : AttainsUnder M p (outcome_under N q s) → ⊥
  pub first : (r : Schedule) → Listed N q r → less r s ≡ true → AttainsUnder M p (outcome_under N q r)
