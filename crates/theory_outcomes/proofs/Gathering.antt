-- OUTCOMES GATHERED BY A WALK, in any memory model and by any rule: where nothing is new, at the end of a run, and over the next steps in turn. What was
-- found not to pass with a next step stays so, since ever fewer outcomes pass.
use Prim.Native.Nat.{ℕ, zero, suc, ◌+◌, ◌<◌, ◌≤◌}
use mathlib.Core.Path.{◌≡◌, refl, sym, subst, ◌∙◌}
use mathlib.Core.Logic.{◌⊎◌, inl, inr, ⊎_elim}
use mathlib.Core.Bool.{Bool, true, false}
use mathlib.Core.Option.{none}
use mathlib.Core.List.{List}
use native.Mathlib.Omega.{arith}
use native.Mathlib.Decide.{dec_lt}
use lib.ListN.{length}
use Rattle.spec_file.specs.Program.{Program}
use Rattle.spec_schedules.specs.Lists.{head_of}
use Rattle.spec_schedules.specs.Order.{Schedule}
use Rattle.spec_schedules.specs.System.{Allowed, ended}
use Rattle.spec_schedules.proofs.Runs.{allowed_full}
use Rattle.spec_model.specs.Model.{Model, end_of}
use Rattle.spec_covers.specs.declared.outcome.Outcome.{Outcome}
use Rattle.theory_search.specs.ModelSearch.{Rule, found_with}
use Rattle.theory_search.proofs.Found.{low_none}
use Rattle.theory_states.proofs.Passing.{no_head, head_nil, Seeks, seek_start, seek_next, seek_over}
use Rattle.theory_outcomes.specs.Outcomes.{outcome_at, comes_so, passing_behind, passing_with}
use Rattle.theory_outcomes.specs.Gathering.{Attained, Gains}
use Rattle.theory_outcomes.proofs.Ending.{passing_fewer}
use Rattle.theory_outcomes.proofs.NextSteps.{turns_with, ended_with}
use Rattle.theory_outcomes.proofs.Outcomes.{comes_fewer}

-- where there is none with any byte there is none at all
none_each : (f : ℕ → List Schedule) (top : ℕ) (whole : List Schedule) → Seeks f top whole 0 → ((d : ℕ) → d < top → none ≡ head_of (f d)) → none ≡ head_of whole
none_each f top whole q each = seek_over f top whole top (omega arith) (upto top (omega arith))
  where
    upto : (t : ℕ) → t ≤ top → Seeks f top whole t
    upto zero h = q
    upto (suc t) h =
        let z : t + 1 ≡ suc t = omega arith in
        subst (Seeks f top whole) z (seek_next f top whole t (omega (arith, h)) (upto t (omega (arith, h))) (each t (omega (arith, h))))

module _ (M : Model) (p : Program) where
  -- NOTHING IS NEW
  pub gains_same : (test : Outcome → Bool) (Left : (Outcome → Bool) → Type 0) → Left test → Gains M p test test Left
  gains_same test Left e = record {
    fewer = λ o n q. q;
    sound = λ o n q. inl q;
    nothing = e;
  }

  -- one walk after the other
  pub gains_then : (a b c : Outcome → Bool) (E F G : (Outcome → Bool) → Type 0) → Gains M p a b E → Gains M p b c F → G c → Gains M p a c G
  gains_then a b c E F G one two left = record {
    fewer = λ o n q. one.fewer o n (two.fewer o n q);
    sound = λ o n q. ⊎_elim (λ (e : b o ≡ false). one.sound o n e) (λ (r : Attained M p o). inr r) (two.sound o n q);
    nothing = left;
  }

  module _ (rule : Program → Rule M) (steps : ℕ) (v : Schedule) where
    -- none that is found behind the prefix passes
    abbrev pub Behind : (Outcome → Bool) → Type 0
    Behind test = none ≡ head_of (passing_behind M rule test p steps v)

    -- none with the next step b
    abbrev pub With : ℕ → (Outcome → Bool) → Type 0
    With b test = none ≡ head_of (passing_with M rule test p steps v b)

    -- none with a next step before t
    abbrev pub Before : ℕ → (Outcome → Bool) → Type 0
    Before t test = (d : ℕ) → d < t → none ≡ head_of (passing_with M rule test p steps v d)

    -- THE END OF A RUN, whose outcome is x
    pub gains_end : Allowed M.system (M.start p) v → ended M.system (end_of M p v) ≡ true → (test behind : Outcome → Bool) (x : Outcome) → x ≡ outcome_at M (end_of M p v) → behind x ≡ false →
        ((o : Outcome) → length o.memory ≡ 8 → behind o ≡ true → test o ≡ true) → ((o : Outcome) → length o.memory ≡ 8 → behind o ≡ false → (test o ≡ false) ⊎ (o ≡ x)) →
        Gains M p test behind Behind
    gains_end a e test behind x is known fewer only = record {
      fewer = fewer;
      sound = λ o n q.
          ⊎_elim (λ (i : test o ≡ false). inl i) (λ (i : o ≡ x). inr (v, allowed_full M.system (M.start p) v a e, sym (i ∙ is))) (only o n q);
      nothing = ended_with M rule behind p steps v e false v (sym (subst (λ (y : Outcome). behind y ≡ false) is known)) refl;
    }

    -- ---- OVER THE NEXT STEPS in turn
    pub gains_start : (test : Outcome → Bool) → Gains M p test test (Before 0)
    gains_start test = gains_same test (Before 0) (λ d h. absurd (omega (arith, h)))

    -- with t
    pub gains_next : ((u : Schedule) → length (M.memory_of (end_of M p u)) ≡ 8) → (a b c : Outcome → Bool) (t : ℕ) → Gains M p a b (Before t) → Gains M p b c (With t) → Gains M p a c (Before (t + 1))
    gains_next eight a b c t one two = gains_then a b c (Before t) (With t) (Before (t + 1)) one two (λ d h. go d h (dec_lt d t))
      where
        go : (d : ℕ) → d < t + 1 → Dec (d < t) → With d c
        go d h (yes l) = sym (head_nil (passing_with M rule c p steps v d)
            (passing_fewer (comes_so M b p) (comes_so M c p) (comes_fewer M p eight b c two.fewer) (found_with M rule false p steps none v d)
            (no_head (passing_with M rule b p steps v d) (one.nothing d l))))
        go d h (no l) = let z : t ≡ d = omega (arith, h, l) in subst (λ (i : ℕ). With i c) z two.nothing

    -- no step is left
    pub gains_over : ended M.system (end_of M p v) ≡ false → steps < M.steps → (a b : Outcome → Bool) (t : ℕ) → M.top ≤ t → Gains M p a b (Before t) → Gains M p a b Behind
    gains_over going room a b t h one = record {
      fewer = one.fewer;
      sound = one.sound;
      nothing = none_each (λ d. passing_with M rule b p steps v d) M.top (passing_behind M rule b p steps v)
          (seek_start (λ d. passing_with M rule b p steps v d) M.top (passing_behind M rule b p steps v) _ low_none (turns_with M rule b p steps v going room))
          (λ d l. one.nothing d (omega (arith, h, l)));
    }
