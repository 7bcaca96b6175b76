-- One program against another, in document 02's words. The outcome of a full schedule is the eight final values and whether it fails. A
-- program covers another if each outcome of the second is one of the first. All full schedules count, listed or not.
use Rattle.std.specs.Prelude.{◌≡◌, true}
use Rattle.spec_file.specs.Program.{Program}
use Rattle.spec_schedules.specs.Order.{Schedule, less}
use Rattle.spec_sc.specs.State.{memory_of}
use Rattle.spec_sc.specs.Graph.{end_of, Full}
use Rattle.spec_model.specs.Alike.{Listed}
use Rattle.spec_model.specs.Model.{failing}
use Rattle.spec_sc.specs.Sequential.{sc}
use Rattle.spec_covers.specs.declared.outcome.Outcome.{Outcome}

unfoldable pub outcome_of : Program → Schedule → Outcome
outcome_of p s = record { memory = memory_of (end_of p s); fails = failing sc p s }

-- o is the outcome of some full schedule of p
abbrev pub Attains : Program → Outcome → Type 0
Attains p o = (s : Schedule) × Full p s × (outcome_of p s ≡ o)

-- p covers q
abbrev pub Covers : Program → Program → Type 0
Covers p q = (o : Outcome) → Attains q o → Attains p o

-- s is the first listed schedule of q with an outcome that p lacks
pub record FirstLacking (p q : Program) (s : Schedule) : Type 0 where
  pub listed : Listed sc q s
  pub lacks : Attains p (outcome_of q s) → ⊥
  pub first : (r : Schedule) → Listed sc q r → less r s ≡ true → Attains p (outcome_of q r)
