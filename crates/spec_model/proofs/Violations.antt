-- Violation answers the first listed schedule that fails, none exactly when none is listed that fails, and 22 exactly when the output is
-- too short.
use Prim.Native.Nat.{ℕ, ◌<◌, ◌≤◌}
use mathlib.Core.Path.{◌≡◌, refl, sym, ap, ◌∙◌}
use mathlib.Core.Logic.{◌↔◌}
use mathlib.Core.Bool.{Bool, true, false}
use mathlib.Core.Option.{Option, none, some}
use mathlib.Core.List.{List, Memᴰ}
use native.Mathlib.Omega.{arith}
use lib.ListN.{length}
use borrow.Author.Tests.{lt-ltb, le-ltb, ltb-true}
use Rattle.spec_file.specs.Over.{over}
use Rattle.spec_file.specs.Program.{Program}
use Rattle.spec_schedules.specs.Lists.{find}
use Rattle.spec_schedules.specs.Order.{Schedule}
use Rattle.spec_schedules.specs.Calls.{short}
use Rattle.spec_schedules.proofs.First.{find_none}
use Rattle.spec_schedules.proofs.FirstIn.{FirstIn, find_in, in_find, none_find}
use Rattle.spec_model.specs.Model.{Model, failing}
use Rattle.spec_model.specs.Laws.{Laws}
use Rattle.spec_model.specs.Alike.{list_of}
use Rattle.spec_model.specs.Answers.{Violation, fails_first, none_fails, refused_by, violation_by, violation_content, violation_of}
use Rattle.spec_model.proofs.TheList.{list_ascends}

-- no other answer is a refusal
not_refused : (o : Option Schedule) → violation_by false o ≡ refused_by 22 0 → ⊥
unfolding violation_by
not_refused none k = let z : ◌≡◌ {A = ℕ} 0 1 = cc in omega arith
not_refused (some s) k = let z : ◌≡◌ {A = ℕ} 0 1 = cc in omega arith

module _ (M : Model) (p : Program) (out : List ℕ) where
  abbrev first_failing : Option Schedule
  first_failing = find (failing M p) (list_of M p)

  -- what violation answers, by the test and the first that fails
  by_test : (b : Bool) (o : Option Schedule) → short M.need out ≡ b → first_failing ≡ o → violation_of M p out ≡ (violation_by b o, violation_content (violation_by b o) out)
  unfolding violation_of
  by_test b o e q = rw (e, q)

  pub violation_short : (violation_of M p out ≡ (refused_by 22 0, out)) ↔ (length out < M.need)
  unfolding violation_by violation_content
  violation_short = ((λ e. go e (short M.need out) refl), λ h. by_test true first_failing (lt-ltb (length out) M.need h) refl)
    where
      go : violation_of M p out ≡ (refused_by 22 0, out) → (b : Bool) → short M.need out ≡ b → length out < M.need
      go e true q = ltb-true (length out) M.need q
      go e false q = absurd (not_refused first_failing (ap (λ (x : Violation × List ℕ). x.0) (sym (by_test false first_failing q refl) ∙ e)))

  module _ (L : Laws M) (h : M.need ≤ length out) where
    long : short M.need out ≡ false
    long = le-ltb (length out) M.need h

    pub violation_first : (s : Schedule) → (violation_of M p out ≡ (fails_first s, over s out)) ↔ FirstIn (failing M p) (list_of M p) s
    unfolding violation_by violation_content
    violation_first s = (
      (λ e. find_in (failing M p) (list_of M p) (list_ascends M L p) s (go e first_failing refl)),
      λ k. by_test false (some s) long (in_find (failing M p) (list_of M p) (list_ascends M L p) s k),
    )
      where
        go : violation_of M p out ≡ (fails_first s, over s out) → (o : Option Schedule) → first_failing ≡ o → first_failing ≡ some s
        go e none q = absurd (let k = ap (λ (x : Violation × List ℕ). x.0) (sym (by_test false none long q) ∙ e) in let z : ◌≡◌ {A = ℕ} 0 1 = cc in omega arith)
        go e (some r) q = let i : r ≡ s = let k = ap (λ (x : Violation × List ℕ). x.0) (sym (by_test false (some r) long q) ∙ e) in cc in q ∙ ap (λ (z : Schedule). some z) i

    pub violation_none : (violation_of M p out ≡ (none_fails, out)) ↔ ((s : Schedule) → Memᴰ s (list_of M p) → failing M p s ≡ false)
    unfolding violation_by violation_content
    violation_none = (
      (λ e. none_find (failing M p) (list_of M p) (go e first_failing refl)),
      λ k. by_test false none long (find_none (failing M p) (list_of M p) k),
    )
      where
        go : violation_of M p out ≡ (none_fails, out) → (o : Option Schedule) → first_failing ≡ o → first_failing ≡ none
        go e none q = q
        go e (some r) q = absurd (let k = ap (λ (x : Violation × List ℕ). x.0) (sym (by_test false (some r) long q) ∙ e) in let z : ◌≡◌ {A = ℕ} 0 1 = cc in omega arith)
