-- WHAT COMES TO AN OUTCOME THAT PASSES A TEST, in any memory model: of what the search finds behind a prefix, those schedules; and any key of positions with
-- one bit more, whether something failed.
use Rattle.std.specs.Prelude.{ℕ, ◌+◌, ◌*◌, ◌%◌, ◌^◌, ◌<◌, ◌≤◌, Bool, false, cond, List, [], ◌∷◌}
use Rattle.std.proofs.Math.Option.{none}
use Rattle.spec_file.specs.Program.{Program}
use Rattle.spec_schedules.specs.Lists.{filter}
use Rattle.spec_schedules.specs.Order.{Schedule}
use Rattle.spec_model.specs.Model.{Model, end_of}
use Rattle.spec_covers.specs.declared.outcome.Outcome.{Outcome}
use Rattle.theory_search.specs.ModelSearch.{Rule, found_behind, found_with}
use Rattle.theory_states.specs.Positions.{Reached}
use Rattle.theory_states.specs.Wrapped.{CleanKeys}
use Rattle.theory_outcomes.specs.Ending.{ends_so, ends_by}

-- ---- WORDS with the second highest bit of the first set where something failed
unfoldable pub flagged : Bool → List ℕ → List ℕ
flagged b [] = []
flagged b (x ∷ l) = cond b (x % 2 ^ 62 + 3 * 2 ^ 62) x ∷ l

-- that bit is free, and the highest is set
abbrev pub Free : List ℕ → Type 0
Free [] = ⊥
Free (x ∷ l) = (2 ^ 63 ≤ x) × (x < 2 ^ 63 + 2 ^ 62)

module _ (M : Model) where
  -- what a state is as an outcome
  abbrev pub outcome_at : M.system.State → Outcome
  outcome_at σ = record { memory = M.memory_of σ; fails = M.fails σ }

  -- a test of outcomes as one of states
  abbrev pub passes : (Outcome → Bool) → M.system.State → Bool
  passes test σ = test (outcome_at σ)

  -- s has ended, with an outcome that passes
  abbrev pub comes_so : (Outcome → Bool) → Program → Schedule → Bool
  comes_so test p s = ends_so M.system (passes test) (end_of M p s)

  -- a key of positions with whether something failed
  abbrev pub flagged_key : (Schedule → M.system.State → List ℕ) → Schedule → M.system.State → List ℕ
  flagged_key key v σ = flagged (M.fails σ) (key v σ)

  module _ (rule : Program → Rule M) (test : Outcome → Bool) (p : Program) where
    -- of what is found behind the prefix v, of so many steps; and of that with b as the next step
    abbrev pub passing_behind : ℕ → Schedule → List Schedule
    passing_behind steps v = filter (comes_so test p) (found_behind M rule false p steps none v)

    abbrev pub passing_with : ℕ → Schedule → ℕ → List Schedule
    passing_with steps v b = filter (comes_so test p) (found_with M rule false p steps none v b)

    -- behind no key of p that has an entry an outcome passes
    abbrev pub NonePasses : (Schedule → M.system.State → List ℕ) → (List ℕ → List ℕ → Type 0) → Type 0
    NonePasses key Says =
        CleanKeys M.system M.top (rule p) (ends_by M.system (passes test)) (Reached M.system (M.start p)) (flagged_key key) Says
