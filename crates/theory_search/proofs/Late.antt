-- R1 IS SOUND: a step that is late can be moved to the front of a greater byte's step that it passes, which gives a smaller schedule with
-- the same end. It may have become late some steps earlier, if it passes all steps since: so a byte that is late and that nothing to come
-- can hold back need not be waited for.
use Prim.Native.Nat.{ℕ, ◌<◌}
use mathlib.Core.Path.{◌≡◌, refl, sym, ap, ap₂, subst, ◌∙◌}
use mathlib.Core.Bool.{true}
use mathlib.Core.List.{List, [], ◌∷◌, ◌++◌, append_assoc, append-nil, reverse}
use native.Mathlib.Omega.{arith}
use lib.Dec.{ltb}
use borrow.Author.Tests.{ltb-true}
use Rattle.spec_file.specs.Program.{Program}
use Rattle.spec_schedules.specs.Order.{Schedule, less}
use Rattle.spec_schedules.specs.System.{run, FullFrom}
use Rattle.spec_schedules.specs.Orders.{trace, next_of, clear}
use Rattle.spec_schedules.proofs.Order.{less_heads, less_behind}
use Rattle.spec_schedules.proofs.Runs.{run_append, full_join, full_split}
use Rattle.spec_schedules.proofs.Orders as Schedules
use Rattle.spec_model.specs.Model.{Model, end_of, Full, actions}
use Rattle.spec_model.specs.Laws.{Admitted, StepLaws, Laws}
use Rattle.spec_model.specs.Alike.{Smaller}
use Rattle.theory_search.specs.Late.{late}
use Rattle.theory_search.specs.LateSet.{taken}
use Rattle.spec_model.proofs.Passing.{Passed, passed_append, passed_next, passed_clear}
use Rattle.theory_search.proofs.Back.{back_reaches}
use Rattle.spec_model.proofs.Traces.{stands, trace_append, trace_cons}
use Rattle.spec_model.proofs.Orders.{steps_commute}
use Rattle.spec_model.proofs.Alike.{alike_end}

module _ (M : Model) (L : StepLaws M) where
  abbrev State : Type 0
  State = M.system.State

  abbrev acts : State → Schedule → List M.Action
  acts σ s = trace M.system M.act σ s

  -- behind u: the step b, whose action d passes all of the actions `before`, can be taken first
  front : (u : Schedule) (σ : State) (before rest : List M.Action) (b : ℕ) (d : M.Action) → M.who d ≡ b → Passed M.who M.dependent before d →
      acts σ u ≡ before ++ (d ∷ rest) → FullFrom M.system σ u →
      (r : Schedule) × FullFrom M.system σ (b ∷ r) × (run M.system σ (b ∷ r) ≡ run M.system σ u)
  front u σ before rest b d own pass e f =
      let p = Schedules.pulled M.system L.lawful L.ascend M.who M.dependent M.act L.by (steps_commute M L) u σ b d f
      (ap (λ (y : List M.Action). next_of M.who M.dependent y b) e ∙ passed_next M.who M.dependent before d rest b own pass)
      (ap (λ (y : List M.Action). clear M.who M.dependent y b d) e ∙ passed_clear M.who M.dependent before d rest b own pass) in
      (p.0, p.1, p.2)

  -- d came late behind v and passes all of x
  pub late_less : (v x : Schedule) (σ : State) (b : ℕ) (z : Schedule) (d : M.Action) → late M.who M.dependent (reverse (acts σ v)) d ≡ true →
      Passed M.who M.dependent (acts (run M.system σ v) x) d → M.act (run M.system σ (v ++ x)) b ≡ d → FullFrom M.system σ ((v ++ x) ++ (b ∷ z)) →
      (r : Schedule) × FullFrom M.system σ r × (less r ((v ++ x) ++ (b ∷ z)) ≡ true) × (run M.system σ r ≡ run M.system σ ((v ++ x) ++ (b ∷ z)))
  late_less v x σ b z d e px q f =
      let S = M.system in
      let k = back_reaches M.who M.dependent (λ e c. ltb c (M.who e)) (acts σ v) d e in
      let s = stands S M.act v σ k.front k.there k.rest k.split in
      let τ : State = run S σ v in
      let ρ : State = run S σ s.before in
      let tail : Schedule = s.after ++ (x ++ (b ∷ z)) in
      let own : M.who d ≡ b = ap M.who (sym q) ∙ L.by (run S σ (v ++ x)) b in
      let lower : b < s.byte = omega (arith, ltb-true (M.who d) (M.who k.there) k.begins, own, ap M.who s.does ∙ L.by ρ s.byte) in
      let whole : (v ++ x) ++ (b ∷ z) ≡ s.before ++ (s.byte ∷ tail) =
      append_assoc v x (b ∷ z) ∙ ap (λ (y : Schedule). y ++ (x ++ (b ∷ z))) s.split ∙ append_assoc s.before (s.byte ∷ s.after) (x ++ (b ∷ z)) in
      let there : run S ρ (s.byte ∷ s.after) ≡ τ = sym (run_append S σ s.before (s.byte ∷ s.after)) ∙ ap (run S σ) (sym s.split) in
      let last : acts (run S τ x) (b ∷ z) ≡ d ∷ acts (S.step (run S τ x) b) z =
      trace_cons S M.act b z (run S τ x) ∙ ap (λ (y : M.Action). y ∷ acts (S.step (run S τ x) b) z) (ap (λ (ω : State). M.act ω b) (sym (run_append S σ v x)) ∙ q) in
      let passing : List M.Action = (k.there ∷ k.rest) ++ acts τ x in
      let steps : acts ρ (s.byte ∷ tail) ≡ passing ++ (d ∷ acts (S.step (run S τ x) b) z) =
      trace_append S M.act (s.byte ∷ s.after) (x ++ (b ∷ z)) ρ
      ∙ ap₂ (λ (y : List M.Action) (ω : State). y ++ acts ω (x ++ (b ∷ z))) s.rests there
      ∙ ap (λ (y : List M.Action). (k.there ∷ k.rest) ++ y) (trace_append S M.act x (b ∷ z) τ ∙ ap (λ (y : List M.Action). acts τ x ++ y) last)
      ∙ sym (append_assoc (k.there ∷ k.rest) (acts τ x) (d ∷ acts (S.step (run S τ x) b) z)) in
      let g = full_split S σ s.before (s.byte ∷ tail) (subst (FullFrom S σ) whole f) in
      let p = front (s.byte ∷ tail) ρ passing (acts (S.step (run S τ x) b) z) b d own
      (passed_append M.who M.dependent (k.there ∷ k.rest) (acts τ x) d k.passed px) steps g.1 in (
        s.before ++ (b ∷ p.0),
        full_join S σ s.before (b ∷ p.0) g.0 p.1,
        ap (less (s.before ++ (b ∷ p.0))) whole ∙ less_behind s.before (b ∷ p.0) (s.byte ∷ tail) ∙ less_heads b s.byte p.0 tail lower,
        run_append S σ s.before (b ∷ p.0) ∙ p.2 ∙ sym (run_append S σ s.before (s.byte ∷ tail)) ∙ ap (run S σ) (sym whole),
      )

  nothing_passed : (d : M.Action) (σ : State) → Passed M.who M.dependent (acts σ []) d
  unfolding trace
  nothing_passed d σ = tt

  -- with no steps since
  pub late_now : (v : Schedule) (σ : State) (b : ℕ) (z : Schedule) → late M.who M.dependent (reverse (acts σ v)) (M.act (run M.system σ v) b) ≡ true →
      FullFrom M.system σ (v ++ (b ∷ z)) →
      (r : Schedule) × FullFrom M.system σ r × (less r (v ++ (b ∷ z)) ≡ true) × (run M.system σ r ≡ run M.system σ (v ++ (b ∷ z)))
  late_now v σ b z e f =
      let n = append-nil v in
      let whole : (v ++ []) ++ (b ∷ z) ≡ v ++ (b ∷ z) = ap (λ (k : Schedule). k ++ (b ∷ z)) n in
      let r = late_less v [] σ b z (M.act (run M.system σ v) b) e (nothing_passed _ (run M.system σ v)) (ap (λ (k : Schedule). M.act (run M.system σ k) b) n) (subst (FullFrom M.system σ) (sym whole) f) in
      (r.0, r.1, subst (λ (k : Schedule). less r.0 k ≡ true) whole r.2, r.3 ∙ ap (run M.system σ) whole)

module _ (M : Model) (L : Laws M) (p : Program) (a : Admitted M p) where
  -- a step that came late behind v, and passes all steps x taken since
  pub passing_smaller : (v x : Schedule) (b : ℕ) (z : Schedule) → late M.who M.dependent (taken M p v) (M.act (end_of M p (v ++ x)) b) ≡ true →
      Passed M.who M.dependent (trace M.system M.act (end_of M p v) x) (M.act (end_of M p (v ++ x)) b) → Full M p ((v ++ x) ++ (b ∷ z)) →
      Smaller M p ((v ++ x) ++ (b ∷ z))
  passing_smaller v x b z e px f =
      let r = late_less M L.steps v x (M.start p) b z (M.act (end_of M p (v ++ x)) b) e px refl f in
      (r.0, r.1, r.2, alike_end M L p a r.0 ((v ++ x) ++ (b ∷ z)) r.3)

  -- R1
  pub late_smaller : (v : Schedule) (b : ℕ) (z : Schedule) → late M.who M.dependent (taken M p v) (M.act (end_of M p v) b) ≡ true →
      Full M p (v ++ (b ∷ z)) → Smaller M p (v ++ (b ∷ z))
  late_smaller v b z e f =
      let r = late_now M L.steps v (M.start p) b z e f in
      (r.0, r.1, r.2, alike_end M L p a r.0 (v ++ (b ∷ z)) r.3)
