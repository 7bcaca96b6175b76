-- ONE VIEW, ONE LATE SET AND THE SAME NEAR EACH OTHER: behind two such positions the search does the same, step by step.
use Prim.Native.Nat.{ℕ, zero, suc}
use mathlib.Core.Path.{◌≡◌, sym, subst, ◌∙◌}
use mathlib.Core.Logic.{◌≢◌}
use mathlib.Core.Bool.{Bool, true, false}
use native.Mathlib.Omega.{arith}
use native.Mathlib.Decide.{ℕ_discrete}
use Rattle.spec_file.specs.Program.{Program}
use Rattle.spec_file.specs.WellFormed.{WellFormed}
use Rattle.spec_file.proofs.Tests.{equal_tests}
use Rattle.spec_schedules.specs.Lists.{any, range}
use Rattle.spec_schedules.specs.Order.{Schedule}
use Rattle.spec_schedules.proofs.Lists.{of_range}
use Rattle.spec_model.specs.Exchange.{Together}
use Rattle.spec_sc.specs.State.{State, thread_of, place, step, cell_of, enabled, SC, start}
use Rattle.spec_sc.specs.Actions.{writes}
use Rattle.theory_sc.specs.Rules.{twin}
use Rattle.theory_sc.specs.LateSet.{late_set}
use Rattle.theory_sc.specs.Search.{given_up}
use Rattle.theory_sc.proofs.TwinWords.{any_same}
use Rattle.theory_states.specs.Positions.{Reached}
use Rattle.theory_states.specs.SameKey.{Bisimulation}
use Rattle.theory_states.proofs.Positions.{reached_on}
use Rattle.theory_sc_key.specs.View.{SameView, breaks}
use Rattle.theory_sc_key.specs.Nearness.{near}
use Rattle.theory_sc_key.proofs.View.{seen_back, step_same, writes_same, same_behind, late_behind_lem, given_up_same}
use Rattle.theory_sc_key.proofs.GoingOn.{SameValues, as_many, Misses, misses_like}
use Rattle.theory_sc_key.proofs.Traced.{Traced, traces}
use Rattle.theory_sc_key.proofs.Nearness.{Near, Around, Caught, Before, near_step}
use Rattle.theory_sc_key.proofs.NearTest.{line_sym, near_true, true_near, twin_near, near_twin}

-- who is near whom in σ is so in τ, by as many accesses
abbrev pub Over : Program → State → State → Type 0
Over p σ τ = (n t u : ℕ) → t ≢ u → Together p t u → Near n σ t u → Near n τ t u

pub record SameFuture (p : Program) (v : Schedule) (σ : State) (w : Schedule) (τ : State) : Type 0 where
  pub left : Reached SC (start p) v σ
  pub right : Reached SC (start p) w τ
  pub view : SameView σ τ
  pub late : late_set p v ≡ late_set p w
  pub there : Over p σ τ
  pub back : Over p τ σ

values_same : (σ τ : State) → SameView σ τ → SameValues σ.cells τ.cells
unfolding cell_of
values_same σ τ same = same.values

module _ (p : Program) (w : WellFormed p) (σ τ : State) (S : Traced p σ) (T : Traced p τ) (same : SameView σ τ) where
  -- the tests say it for every number of accesses
  pub near_over : ((t u : ℕ) → near p σ t u ≡ near p τ t u) → Over p σ τ
  near_over e n t u ne line k =
      let r = (near_true p w τ T t u (sym (e t u) ∙ true_near p w σ S t u ne line n k)).2 in
      let i = as_many σ.cells τ.cells n r.0 (thread_of σ t) (thread_of σ u) (thread_of τ t) (thread_of τ u) (values_same σ τ same) (same.threads t) (same.threads u) k.2 r.1.2 in
      subst (λ (m : ℕ). Near m τ t u) (sym i) r.1

  -- R2 gives up the same
  twin_over : Over p σ τ → (t u : ℕ) → t ≢ u → twin p σ t u ≡ true → twin p τ t u ≡ true
  twin_over over t u ne e = let k = twin_near p w σ S t u e in near_twin p τ t u k.0 (over 0 t u ne k.0 k.1)

  -- ---- behind a step
  module _ (over : Over p σ τ) (s : ℕ) (ok : enabled σ s ≡ true) where
    writing : (b : Bool) → writes σ s ≡ b → writes τ s ≡ b
    writing b e = sym (writes_same σ τ same s) ∙ e

    around_over : (n t : ℕ) → Around n σ s t → Around n τ s t
    around_over n t k e =
        subst (Misses τ.cells n (thread_of τ t)) (step_same σ τ same s).goes
        (misses_like σ.cells τ.cells n (thread_of σ t) (thread_of τ t) (place σ s) (values_same σ τ same) (same.threads t) (k (writes_same σ τ same s ∙ e)))

    caught_over : (n t : ℕ) → t ≢ s → Together p t s → Caught n σ s t → Caught n τ s t
    caught_over zero t ne line k = over 1 s t (λ i. ne (sym i)) (line_sym p t s line) k
    caught_over (suc n) t ne line k = over n t s ne line k

    before_over : (n t u : ℕ) → t ≢ u → Together p t u → (i : Dec (t ≡ s)) (j : Dec (u ≡ s)) → Before n σ s t u i j → Before n τ s t u i j
    before_over n t u ne line (yes i) j k = (writing false k.0, over (suc n) s u (subst (λ (x : ℕ). x ≢ u) i ne) (subst (λ (x : ℕ). Together p x u) i line) k.1)
    before_over n t u ne line (no i) (yes j) k = (writing false k.0, caught_over n t i (subst (Together p t) j line) k.1)
    before_over n t u ne line (no i) (no j) k = (over n t u ne line k.0, around_over n t k.1)

    step_over : Over p (step σ s) (step τ s)
    step_over n t u ne line k =
        (near_step p w τ T s (sym (step_same σ τ same s).may ∙ ok) n t u ne line).1 (before_over n t u ne line (ℕ_discrete t s) (ℕ_discrete u s) ((near_step p w σ S s ok n t u ne line).0 k))

module _ (p : Program) (w : WellFormed p) where
  twins_same : (v : Schedule) (σ : State) (x : Schedule) (τ : State) → SameFuture p v σ x τ → (t : ℕ) → any (twin p σ t) (range 0 t) ≡ any (twin p τ t) (range 0 t)
  twins_same v σ x τ r t =
      let S = traces p w v σ r.left in
      let T = traces p w x τ r.right in
      any_same (twin p σ t) (twin p τ t) (range 0 t) (λ u m.
      let ne : t ≢ u = λ q. omega (arith, q, (of_range 0 t u m).1) in
      equal_tests (twin p σ t u) (twin p τ t u) (twin_over p w σ τ S T r.view r.there t u ne) (twin_over p w τ σ T S (seen_back σ τ r.view) r.back t u ne))

  -- BEHIND SUCH POSITIONS THE SEARCH DOES THE SAME
  pub same_future : Bisimulation SC (given_up p) breaks (SameFuture p)
  same_future = record {
    enabled = λ v σ x τ r t. (step_same σ τ r.view t).may;
    cuts = λ v σ x τ r t e.
        given_up_same p v σ x τ r.left r.right (traces p w v σ r.left).regular (traces p w x τ r.right).regular r.view r.late t e (twins_same v σ x τ r t);
    fails = λ v σ x τ r t e c. (step_same σ τ r.view t).broken e;
    steps = λ v σ x τ r t e c.
        let S = traces p w v σ r.left in
        let T = traces p w x τ r.right in
        let e' = sym (step_same σ τ r.view t).may ∙ e in record {
          left = reached_on SC (start p) v σ r.left t e;
          right = reached_on SC (start p) x τ r.right t e';
          view = same_behind σ τ S.regular T.regular r.view t e;
          late = late_behind_lem p v σ x τ r.left r.right S.regular T.regular r.view r.late t e;
          there = step_over p w σ τ S T r.view r.there t e;
          back = step_over p w τ σ T S (seen_back σ τ r.view) r.back t e';
        };
  }
