-- OUTCOMES GATHERED IN ONE WALK, in any memory model: where nothing is left and all that was added is an outcome, the rows are exactly the outcomes.
use Rattle.std.specs.Prelude.{Option, Some, None, IfSome}
use Prim.Native.Nat.{ℕ, ◌*◌, ◌≤◌}
use mathlib.Core.Path.{◌≡◌, refl, sym, ap, subst, ◌∙◌}
use mathlib.Core.Logic.{⊎_elim}
use mathlib.Core.Bool.{Bool, true, false, not, true≢false}
use mathlib.Core.Option.{none}
use mathlib.Core.List.{List}
use native.Mathlib.Omega.{arith}
use lib.ListN.{length, take}
use Rattle.spec_file.specs.Program.{Program}
use Rattle.spec_file.proofs.Tests.{equal_tests}
use Rattle.spec_schedules.specs.Lists.{any, find}
use Rattle.spec_schedules.proofs.FirstIn.{none_find}
use Rattle.spec_schedules.proofs.Lists.{any_yes}
use Rattle.spec_model.specs.Model.{Model}
use Rattle.spec_model.specs.Laws.{Admitted, Laws}
use Rattle.spec_model.specs.Alike.{list_of}
use Rattle.spec_covers.specs.declared.outcome.Outcome.{Outcome}
use Rattle.spec_across.specs.Under.{outcome_under}
use Rattle.spec_across.proofs.Attained.{comes_to, comes_is, attained, attained_of}
use Rattle.theory_outcomes.specs.Gathering.{Attained, Gains}
use Rattle.states_outcomes.specs.Rows.{row_of, known_row, is_new}
use Rattle.states_outcomes.proofs.RowLists.{known_none}
use Rattle.outcome_states.specs.Gathered.{Exactly, Holds}

-- what was gathered from no rows on
module _ (M : Model) (L : Laws M) (p : Program) (a : Admitted M p) (rows₀ rows : List ℕ) (k : ℕ)
    (g : Gains M p (is_new rows₀ 0) (is_new rows k) (λ test. none ≡ find (λ s. test (outcome_under M p s)) (list_of M p))) (x : Outcome) where
  -- an outcome of a full schedule is one of a listed one
  listed : Attained M p x → any (comes_to M p x) (list_of M p) ≡ true
  unfolding attained outcome_under
  listed r = attained_of M L p a x r

  -- what is among the rows is an outcome
  there : length x.memory ≡ 8 → known_row rows k (row_of x) ≡ true → any (comes_to M p x) (list_of M p) ≡ true
  there e q = ⊎_elim (λ (n : is_new rows₀ 0 x ≡ false). absurd (true≢false (ap not (known_none rows₀ (row_of x)) ∙ n))) listed (g.sound x e (ap not q))

  -- an outcome is among the rows
  back : any (comes_to M p x) (list_of M p) ≡ true → known_row rows k (row_of x) ≡ true
  back q = go (known_row rows k (row_of x)) refl
    where
      go : (b : Bool) → known_row rows k (row_of x) ≡ b → b ≡ true
      go true n = refl
      go false n =
          let r = any_yes (comes_to M p x) (list_of M p) q in
          let old = none_find (λ s. is_new rows k (outcome_under M p s)) (list_of M p) (sym g.nothing) r.0 r.1 in
          absurd (true≢false (sym (ap not n) ∙ subst (λ (o : Outcome). is_new rows k o ≡ false) (comes_is M p x r.0 r.2) old))

  pub gained : length x.memory ≡ 8 → known_row rows k (row_of x) ≡ any (comes_to M p x) (list_of M p)
  gained e = equal_tests (known_row rows k (row_of x)) (any (comes_to M p x) (list_of M p)) (there e) back

-- THE ROWS ARE ALL OUTCOMES
pub exactly : (M : Model) → Laws M → (p : Program) → Admitted M p → (rows₀ rows : List ℕ) (k : ℕ)
    → Gains M p (is_new rows₀ 0) (is_new rows k) (λ test. none ≡ find (λ s. test (outcome_under M p s)) (list_of M p)) → Exactly M p rows k
exactly M L p a rows₀ rows k g x e = gained M L p a rows₀ rows k g x e

-- what was gathered behind a frame with no row
holds_some : (M : Model) → Laws M → (p : Program) → Admitted M p → (cut cut' known k : ℕ) → cut' ≡ cut → known ≡ 0 → (start lent' : List ℕ)
    → Gains M p (is_new (take cut' start) known) (is_new (take cut' lent') k) (λ test. none ≡ find (λ s. test (outcome_under M p s)) (list_of M p)) → Exactly M p (take cut lent') k
holds_some M L p a cut cut' known k e no_row start lent' g =
    subst (λ (c : ℕ). Exactly M p (take c lent') k) e
    (exactly M L p a (take cut' start) (take cut' lent') k
    (subst (λ (n : ℕ). Gains M p (is_new (take cut' start) n) (is_new (take cut' lent') k) (λ test. none ≡ find (λ s. test (outcome_under M p s)) (list_of M p))) no_row g))

pub holds : (M : Model) → Laws M → (p : Program) → Admitted M p → (cut cut' known : ℕ) → cut' ≡ cut → known ≡ 0 → (lent start lent' : List ℕ) → length lent' ≡ length lent
    → (r : Option ℕ) → IfSome r (λ k. 9 * k ≤ cut')
    → IfSome r (λ k. Gains M p (is_new (take cut' start) known) (is_new (take cut' lent') k) (λ test. none ≡ find (λ s. test (outcome_under M p s)) (list_of M p))) → Holds M p cut lent lent' r
holds M L p a cut cut' known e no_row lent start lent' words (Some k) room g =
    record { words = words; room = omega (arith, e, room); exact = holds_some M L p a cut cut' known k e no_row start lent' g }
holds M L p a cut cut' known e no_row lent start lent' words None room g = record { words = words; room = tt; exact = tt }

-- where marks are true of the rows
pub gains_of : (F : Type 0) (r : Option ℕ) (P : ℕ → Type 0) → IfSome r (λ k. F → P k) → F → IfSome r P
gains_of F (Some k) P h f = h f
gains_of F None P h f = tt
