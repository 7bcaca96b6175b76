-- MARKS, AND THE FIRST OF THE LIST THAT COMES TO AN OUTCOME THAT PASSES, in any memory model and by any rule. A position whose key is marked is passed over;
-- one behind which nothing passes may be marked; and marks stay true while fewer outcomes pass.
use Prim.Native.Nat.{ℕ, ◌+◌, ◌-◌, ◌≤◌}
use mathlib.Core.Path.{◌≡◌, refl, sym, ap, ◌∙◌}
use mathlib.Core.Bool.{Bool, true, false, true≢false}
use mathlib.Core.Option.{none}
use mathlib.Core.List.{List, [], Memᴰ}
use native.Mathlib.Omega.{arith}
use lib.ListN.{length}
use Rattle.spec_file.specs.Program.{Program}
use Rattle.spec_schedules.specs.Lists.{filter, find, head_of}
use Rattle.spec_schedules.specs.Order.{Schedule}
use Rattle.spec_schedules.specs.System.{System, Lawful, Allowed, ended}
use Rattle.spec_schedules.proofs.First.{head_filter}
use Rattle.spec_schedules.proofs.Kept.{filter_agree}
use Rattle.spec_schedules.proofs.Runs.{full_allowed}
use Rattle.spec_model.specs.Alike.{list_of}
use Rattle.spec_model.specs.Laws.{Laws}
use Rattle.spec_model.specs.Model.{Model, end_of}
use Rattle.spec_model.specs.Search.{sought}
use Rattle.spec_model.proofs.TheList.{list_exact}
use Rattle.spec_covers.specs.declared.outcome.Outcome.{Outcome}
use Rattle.theory_search.specs.Found.{found_from}
use Rattle.theory_search.specs.ModelSearch.{Rule, looked_for, found_behind}
use Rattle.theory_states.specs.Memory.{Honest}
use Rattle.theory_states.specs.Numbers.{Numbers, numbers}
use Rattle.theory_states.specs.Positions.{Reached, GoesOn}
use Rattle.theory_states.specs.SameKey.{Decides}
use Rattle.theory_states.proofs.Numbers.{numbers_ended}
use Rattle.theory_states.proofs.Passing.{no_head, head_nil, size_left, clean_passed, clean_known}
use Rattle.theory_states.proofs.Positions.{reached_on}
use Rattle.theory_states.proofs.Wrapped.{clean_none, clean_put}
use Rattle.theory_outcomes.specs.Ending.{ends_so, ends_by}
use Rattle.theory_outcomes.specs.Outcomes.{outcome_at, passes, comes_so, flagged_key, passing_behind, NonePasses}
use Rattle.theory_outcomes.proofs.Ending.{ends_going, ends_at, ends_law, found_passing, passing_fewer}

-- where fewer outcomes pass, fewer schedules come to one that does
pub comes_fewer : (M : Model) (p : Program) → ((u : Schedule) → length (M.memory_of (end_of M p u)) ≡ 8) → (test fewer : Outcome → Bool) →
    ((o : Outcome) → length o.memory ≡ 8 → fewer o ≡ true → test o ≡ true) → (u : Schedule) → comes_so M fewer p u ≡ true → comes_so M test p u ≡ true
comes_fewer M p eight test fewer less u q = go (ended M.system (end_of M p u)) refl
  where
    go : (b : Bool) → ended M.system (end_of M p u) ≡ b → comes_so M test p u ≡ true
    go true e = ends_at M.system (passes M test) (end_of M p u) e ∙ less _ (eight u) (sym (ends_at M.system (passes M fewer) (end_of M p u) e) ∙ q)
    go false e = absurd (true≢false (sym q ∙ ends_going M.system (passes M fewer) (end_of M p u) e))

module _ (M : Model) (lawful : Lawful M.system) (rule : Program → Rule M) (p : Program) where
  abbrev S : System
  S = M.system

  abbrev Met : Schedule → M.system.State → Type 0
  Met = Reached M.system (M.start p)

  on : GoesOn M.system (rule p) (Reached M.system (M.start p))
  on u ρ m t e c = reached_on S (M.start p) u ρ m t e

  wanted : (s : Schedule) → looked_for M false p s ≡ true
  unfolding looked_for
  wanted s = refl

  -- ---- at one position
  module _ (v : Schedule) (σ : M.system.State) (r : Reached M.system (M.start p) v σ) (k : ℕ) (h : M.system.size σ ≤ k) where
    -- all that is found
    abbrev All : List Schedule
    All = found_from S M.top (rule p) (looked_for M false p) k none v σ

    module _ (test : Outcome → Bool) where
      agree : (u : Schedule) (ρ : M.system.State) → Reached M.system (M.start p) u ρ → comes_so M test p u ≡ ends_so M.system (passes M test) ρ
      agree u ρ m = ap (ends_so S (passes M test)) (sym m.0)

      sifted : found_from M.system M.top (rule p) (comes_so M test p) k none v σ ≡ filter (comes_so M test p) All
      sifted = found_passing S M.top (rule p) (comes_so M test p) (looked_for M false p) wanted k v σ

      -- no outcome behind passes exactly where nothing that is found comes to one
      none_sifted : ended M.system σ ≡ false → (numbers M.system M.top (rule p) (ends_by M.system (passes M test)) v σ).failing ≡ 0 → filter (comes_so M test p) All ≡ []
      none_sifted e z = sym sifted ∙ no_head (found_from S M.top (rule p) (comes_so M test p) k none v σ)
          (clean_passed S lawful M.top (rule p) Met on (ends_by S (passes M test)) (ends_so S (passes M test)) (ends_law S (passes M test) lawful (rule p) Met)
          (comes_so M test p) agree k v σ r h (ends_going S (passes M test) σ e) z)

      sifted_none : ended M.system σ ≡ false → filter (comes_so M test p) All ≡ [] → (numbers M.system M.top (rule p) (ends_by M.system (passes M test)) v σ).failing ≡ 0
      sifted_none e z =
          clean_known S lawful M.top (rule p) Met on (ends_by S (passes M test)) (ends_so S (passes M test)) (ends_law S (passes M test) lawful (rule p) Met)
          (comes_so M test p) agree k v σ r h (ends_going S (passes M test) σ e) (sym (head_nil (found_from S M.top (rule p) (comes_so M test p) k none v σ) (sifted ∙ z)))

  -- ---- marks
  module _ (key : Schedule → M.system.State → List ℕ) (test : Outcome → Bool) where
    -- a table that says nothing
    pub passes_nothing : (Says : List ℕ → List ℕ → Type 0) → ((k c : List ℕ) → Says k c → ⊥) → NonePasses M rule test p key Says
    passes_nothing Says h = clean_none S lawful M.top (rule p) (ends_by S (passes M test)) Met (flagged_key M key) Says Says h

    -- MARKS STAY TRUE while fewer pass, of outcomes with eight values
    pub passes_fewer : ((u : Schedule) → length (M.memory_of (end_of M p u)) ≡ 8) → (fewer : Outcome → Bool) → ((o : Outcome) → length o.memory ≡ 8 → fewer o ≡ true → test o ≡ true) →
        (Says : List ℕ → List ℕ → Type 0) → NonePasses M rule test p key Says → NonePasses M rule fewer p key Says
    passes_fewer eight fewer less Says marks x met c s = go (ended S x.1) refl
      where
        go : (b : Bool) → ended M.system x.1 ≡ b → (numbers M.system M.top (rule p) (ends_by M.system (passes M fewer)) x.0 x.1).failing ≡ 0
        go true e = ap (λ (m : Numbers). m.failing) (numbers_ended S M.top (rule p) (ends_by S (passes M fewer)) lawful x.0 x.1 e)
        go false e =
            let k : ℕ = S.size x.1 in
            sifted_none x.0 x.1 met k (omega arith) fewer e
            (passing_fewer (comes_so M test p) (comes_so M fewer p) (comes_fewer M p eight test fewer less) (All x.0 x.1 met k (omega arith)) (none_sifted x.0 x.1 met k (omega arith) test e (marks x met c s)))

  -- at a prefix of so many steps, behind which somebody may step
  module _ (key : Schedule → M.system.State → List ℕ) (test : Outcome → Bool) (bound : M.system.size (M.start p) ≤ M.steps)
      (v : Schedule) (a : Allowed M.system (M.start p) v) (steps : ℕ) (counted : length v ≡ steps) (going : ended M.system (end_of M p v) ≡ false) where
    few : M.system.size (end_of M p v) ≤ M.steps - steps
    few = omega (arith, size_left S lawful v (M.start p) a, bound, counted)

    -- A MARKED KEY IS PASSED OVER
    pub passed_over : (Says : List ℕ → List ℕ → Type 0) → NonePasses M rule test p key Says → (c : List ℕ) → Says (flagged_key M key v (end_of M p v)) c → none ≡ head_of (passing_behind M rule test p steps v)
    passed_over Says marks c s =
        sym (head_nil (passing_behind M rule test p steps v) (none_sifted v (end_of M p v) (refl, a) (M.steps - steps) few test going (marks (v, end_of M p v) (refl, a) c s)))

    -- A KEY BEHIND WHICH NOTHING PASSES MAY BE MARKED, where all keys are equally wide and decide
    pub may_mark : (n : ℕ) → ((u : Schedule) (ρ : M.system.State) → Reached M.system (M.start p) u ρ → length (flagged_key M key u ρ) ≡ n) →
        Decides M.system (rule p) (ends_by M.system (passes M test)) (Reached M.system (M.start p)) (flagged_key M key) →
        (Says Says' : List ℕ → List ℕ → Type 0) → none ≡ head_of (passing_behind M rule test p steps v) → (c : List ℕ) →
        Honest (λ j. length j ≡ length (flagged_key M key v (end_of M p v))) (flagged_key M key v (end_of M p v)) c Says Says' → NonePasses M rule test p key Says → NonePasses M rule test p key Says'
    may_mark n wide D Says Says' nowhere c honest marks =
        clean_put S lawful M.top (rule p) (ends_by S (passes M test)) Met (flagged_key M key) Says Says'
        (λ j. length j ≡ length (flagged_key M key v (end_of M p v))) (λ u ρ r. wide u ρ r ∙ sym (wide v (end_of M p v) (refl, a))) D v (end_of M p v) (refl, a) c
        (sifted_none v (end_of M p v) (refl, a) (M.steps - steps) few test going (no_head (passing_behind M rule test p steps v) nowhere)) honest marks

  -- ---- FROM THE START: the first of the list with an outcome that passes
  module _ (laws : Laws M) (exact : found_behind M rule false p 0 none [] ≡ list_of M p) (test : Outcome → Bool) where
    listed_comes : (s : Schedule) → Memᴰ s (list_of M p) → comes_so M test p s ≡ test (outcome_at M (end_of M p s))
    listed_comes s m = ends_at S (passes M test) (end_of M p s) (full_allowed S (M.start p) s ((list_exact M laws p s).0 m).0).1

    pub passing_first : (steps : ℕ) → 0 ≡ steps → head_of (passing_behind M rule test p steps []) ≡ find (λ s. test (outcome_at M (end_of M p s))) (list_of M p)
    passing_first steps e =
        ap (λ (i : ℕ). head_of (passing_behind M rule test p i [])) (sym e)
        ∙ ap (λ (l : List Schedule). head_of (filter (comes_so M test p) l)) exact
        ∙ ap head_of (filter_agree (comes_so M test p) (λ s. test (outcome_at M (end_of M p s))) (list_of M p) listed_comes)
        ∙ head_filter (λ s. test (outcome_at M (end_of M p s))) (list_of M p)
