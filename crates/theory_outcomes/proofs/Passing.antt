-- MARKS, AND THE FIRST OF THE LIST THAT COMES TO AN OUTCOME THAT PASSES, under sequential consistency.
use Prim.Native.Nat.{ℕ}
use mathlib.Core.Path.{◌≡◌, ◌∙◌}
use mathlib.Core.Bool.{Bool, true, false}
use mathlib.Core.Option.{none}
use mathlib.Core.List.{List, []}
use lib.ListN.{length, length-map}
use Rattle.spec_file.specs.Program.{Program}
use Rattle.spec_file.specs.WellFormed.{WellFormed}
use Rattle.spec_schedules.specs.Lists.{find, head_of}
use Rattle.spec_schedules.specs.Order.{Schedule}
use Rattle.spec_schedules.specs.System.{Allowed, ended}
use Rattle.spec_schedules.proofs.After.{after_none}
use Rattle.spec_model.specs.Alike.{list_of}
use Rattle.spec_model.specs.Search.{sought}
use Rattle.spec_sc.specs.State.{SC, start, memory_of, value_of}
use Rattle.spec_sc.specs.Graph.{end_of}
use Rattle.spec_sc.specs.Sequential.{sc}
use Rattle.spec_sc.proofs.Laws.{sc_laws}
use Rattle.spec_sc.proofs.Lawful.{lawful, start_24}
use Rattle.spec_sc.proofs.Start.{start_cells}
use Rattle.spec_sc.proofs.Steps.{run_cells}
use Rattle.spec_covers.specs.declared.outcome.Outcome.{Outcome}
use Rattle.spec_covers.specs.Covers.{outcome_of}
use Rattle.theory_sc.specs.Search.{given_up, found_behind, found}
use Rattle.theory_sc.proofs.Search.{found_exactly}
use Rattle.theory_states.specs.Memory.{Honest}
use Rattle.theory_sc_key.specs.Key.{word_key, Wide}
use Rattle.theory_outcomes.specs.Passing.{passing_behind, outcome_key, NonePasses}
use Rattle.theory_outcomes.proofs.Outcomes as Outcomes
use Rattle.theory_outcomes.proofs.OutcomeKey.{outcome_key_wide, outcome_key_decides}

-- memory has eight values behind any steps
pub memory_eight : (p : Program) → WellFormed p → (u : Schedule) → length (memory_of (end_of p u)) ≡ 8
unfolding memory_of
memory_eight p w u = length-map (end_of p u).cells value_of ∙ run_cells u (start p) ∙ start_cells p w

-- ---- marks
-- a table that says nothing
pub passes_nothing : (p : Program) (test : Outcome → Bool) (n : ℕ) (Says : List ℕ → List ℕ → Type 0) → ((k c : List ℕ) → Says k c → ⊥) → NonePasses test p n Says
passes_nothing p test n = Outcomes.passes_nothing sc lawful given_up p (word_key n p) test

module _ (p : Program) (w : WellFormed p) (test : Outcome → Bool) (n : ℕ) where
  -- MARKS STAY TRUE while fewer pass
  pub passes_fewer : (fewer : Outcome → Bool) → ((o : Outcome) → length o.memory ≡ 8 → fewer o ≡ true → test o ≡ true) → (Says : List ℕ → List ℕ → Type 0) → NonePasses test p n Says → NonePasses fewer p n Says
  passes_fewer = Outcomes.passes_fewer sc lawful given_up p (word_key n p) test (memory_eight p w)

  -- at a prefix of so many steps, behind which somebody may step
  module _ (v : Schedule) (a : Allowed SC (start p) v) (steps : ℕ) (counted : length v ≡ steps) (going : ended SC (end_of p v) ≡ false) where
    -- A MARKED KEY IS PASSED OVER
    pub passed_over : (Says : List ℕ → List ℕ → Type 0) → NonePasses test p n Says → (c : List ℕ) → Says (outcome_key n p v (end_of p v)) c → none ≡ head_of (passing_behind test p steps v)
    passed_over = Outcomes.passed_over sc lawful given_up p (word_key n p) test (start_24 p w) v a steps counted going

    -- A KEY BEHIND WHICH NOTHING PASSES MAY BE MARKED
    pub may_mark : Wide n p → (Says Says' : List ℕ → List ℕ → Type 0) → none ≡ head_of (passing_behind test p steps v) → (c : List ℕ) →
        Honest (λ j. length j ≡ length (outcome_key n p v (end_of p v))) (outcome_key n p v (end_of p v)) c Says Says' → NonePasses test p n Says → NonePasses test p n Says'
    may_mark wide = Outcomes.may_mark sc lawful given_up p (word_key n p) test (start_24 p w) v a steps counted going n (outcome_key_wide p w n wide) (outcome_key_decides p w n test)

-- ---- FROM THE START: the first of the list with an outcome that passes
module _ (p : Program) (w : WellFormed p) (test : Outcome → Bool) where
  exact : found_behind false p 0 none [] ≡ list_of sc p
  unfolding found sought
  exact = found_exactly p w false none ∙ after_none (sought sc false p)

  pub passing_first : (steps : ℕ) → 0 ≡ steps → head_of (passing_behind test p steps []) ≡ find (λ s. test (outcome_of p s)) (list_of sc p)
  unfolding outcome_of
  passing_first = Outcomes.passing_first sc lawful given_up p sc_laws exact test
