-- WHAT IS PROMISED OF THE OUTCOMES, of a memory model and a file that it lists. p is the program that the file is read as. All full schedules
-- count, listed or not.
use Rattle.std.specs.Prelude.{ℕ, ◌+◌, ◌-◌, ◌≤◌, ◌/◌, min, ◌≡◌, ◌↔◌, true, false, length, drop, Ok}
use mathlib.Core.List.{List, ◌++◌, Memᴰ}
use Rattle.spec_file.specs.Lists.{Ascends}
use Rattle.spec_file.specs.Over.{over}
use Rattle.spec_file.specs.Program.{Program}
use Rattle.spec_schedules.specs.Order.{Schedule, less}
use Rattle.spec_model.specs.Model.{Model, Full}
use Rattle.spec_model.specs.Alike.{Listed}
use Rattle.spec_covers.specs.declared.outcome.Outcome.{Outcome}
use Rattle.spec_across.specs.Under.{outcome_under, AttainsUnder}
use Rattle.spec_outcomes.specs.Firsts.{firsts_of}
use Rattle.spec_outcomes.specs.OutcomesCall.{outcome_size, outcome_rows, page_of, outcomes_file, outcomes_output}

pub record Outcomes (M : Model) (file : List ℕ) (p : Program) : Type 0 where
  -- EACH ROW'S SCHEDULE is listed, so full: its outcome is one of the program's
  pub listed : (s : Schedule) → Memᴰ s (firsts_of M p) → Listed M p s
  -- and the least of all full schedules with its outcome
  pub first : (s : Schedule) → Memᴰ s (firsts_of M p) → (r : Schedule) → Full M p r → outcome_under M p r ≡ outcome_under M p s → less r s ≡ false
  -- EACH OUTCOME of a full schedule stands in exactly one row
  pub once : (o : Outcome) → AttainsUnder M p o →
      (s : Schedule) × Memᴰ s (firsts_of M p) × (outcome_under M p s ≡ o)
      × ((r : Schedule) → Memᴰ r (firsts_of M p) → outcome_under M p r ≡ o → r ≡ s)
  -- ROWS ASCEND by their schedules
  pub ascends : Ascends less (firsts_of M p)
  -- AS MANY ROWS as the output has room for, or as there are from this number on
  pub written : (from : ℕ) (out : List ℕ) → outcome_size M ≤ length out →
      outcomes_file M file from out ≡ Ok (min (length out / outcome_size M) (length (firsts_of M p) - from))
  -- they stand in front of the output, and nothing else changes
  pub output : (from : ℕ) (out : List ℕ) → outcomes_output M file from out ≡ over (outcome_rows M p (page_of M p from out)) out
  -- PAGES: the rows of a page, and those from behind it on, are those from its number on
  pub pages : (from : ℕ) (out : List ℕ) →
      page_of M p from out ++ drop (from + length (page_of M p from out)) (firsts_of M p) ≡ drop from (firsts_of M p)
  -- NO ROW exactly from the number of outcomes on
  pub ends : (from : ℕ) (out : List ℕ) → outcome_size M ≤ length out →
      (outcomes_file M file from out ≡ Ok 0) ↔ (length (firsts_of M p) ≤ from)
