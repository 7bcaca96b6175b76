-- What is shown of both fetch and adds: for every schedule the machine with events and the one of values end alike, in registers, memory
-- and failures; their full schedules are the same lists; so a program has the same outcomes by either.
use Rattle.std.specs.Prelude.{◌≡◌}
use Rattle.spec_file.specs.Program.{Program}
use Rattle.spec_schedules.specs.Order.{Schedule}
use Rattle.spec_schedules.specs.System.{run, FullFrom}
use Rattle.spec_sc.specs.State.{State, start, fails, memory_of}
use Rattle.spec_sc.specs.Graph.{Full, end_of}
use Rattle.spec_add_zero.specs.Values.{ByValues, beginning, Outcome}
use Rattle.spec_add_zero.specs.Writing.{By, put_first, values_of}

-- the state behind a schedule, and full, by document 01's first fetch and add
abbrev pub end_first : Program → Schedule → State
end_first p s = run (By put_first) (start p) s

abbrev pub FullFirst : Program → Schedule → Type 0
FullFirst p s = FullFrom (By put_first) (start p) s

-- some full schedule of p has this outcome, by the amended fetch and add and by the first
abbrev pub HasOutcome : Program → Outcome → Type 0
HasOutcome p o = (s : Schedule) × Full p s × ◌≡◌ {A = Outcome} (memory_of (end_of p s), fails (end_of p s)) o

abbrev pub HadOutcome : Program → Outcome → Type 0
HadOutcome p o = (s : Schedule) × FullFirst p s × ◌≡◌ {A = Outcome} (memory_of (end_first p s), fails (end_first p s)) o

pub record SameOutcomes (p : Program) : Type 0 where
  pub ends : (s : Schedule) → values_of (end_of p s) ≡ run ByValues (beginning p) s
  pub ends_first : (s : Schedule) → values_of (end_first p s) ≡ run ByValues (beginning p) s
  pub full : (s : Schedule) → (Full p s → FullFrom ByValues (beginning p) s) × (FullFrom ByValues (beginning p) s → Full p s)
  pub full_first : (s : Schedule)
      → (FullFirst p s → FullFrom ByValues (beginning p) s) × (FullFrom ByValues (beginning p) s → FullFirst p s)
  pub kept : (o : Outcome) → HadOutcome p o → HasOutcome p o
  pub none_new : (o : Outcome) → HasOutcome p o → HadOutcome p o
