-- WHAT COMES TO AN OUTCOME THAT PASSES A TEST, under sequential consistency.
use Rattle.std.specs.Prelude.{ℕ, Bool, List}
use Rattle.spec_file.specs.Program.{Program}
use Rattle.spec_schedules.specs.Order.{Schedule}
use Rattle.spec_sc.specs.State.{State}
use Rattle.spec_sc.specs.Sequential.{sc}
use Rattle.spec_covers.specs.declared.outcome.Outcome.{Outcome}
use Rattle.theory_sc.specs.Search.{given_up}
use Rattle.theory_sc_key.specs.Key.{word_key}
use Rattle.theory_outcomes.specs.Outcomes as Outcomes

-- of what is found behind the prefix v, of so many steps; and of that with t as the next step
abbrev pub passing_behind : (Outcome → Bool) → Program → ℕ → Schedule → List Schedule
passing_behind = Outcomes.passing_behind sc given_up

abbrev pub passing_with : (Outcome → Bool) → Program → ℕ → Schedule → ℕ → List Schedule
passing_with = Outcomes.passing_with sc given_up

-- the key with whether something failed
abbrev pub outcome_key : ℕ → Program → Schedule → State → List ℕ
outcome_key n p = Outcomes.flagged_key sc (word_key n p)

-- behind no key of p that has an entry an outcome passes
abbrev pub NonePasses : (Outcome → Bool) → Program → ℕ → (List ℕ → List ℕ → Type 0) → Type 0
NonePasses test p n = Outcomes.NonePasses sc given_up test p (word_key n p)
