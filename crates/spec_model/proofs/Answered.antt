-- What the calls on a program can answer, in any memory model: a schedule is a member of the list, answered only where the output is not
-- too short; the refusals are 22, and for a continue 20 and 21, at a place that is not beyond the longest run.
use Prim.Native.Nat.{ℕ, suc, ◌+◌, ◌≤◌}
use mathlib.Core.Path.{◌≡◌, refl, sym, ap, subst, ◌∙◌}
use mathlib.Core.Bool.{Bool, true, false}
use mathlib.Core.Option.{Option, none, some}
use mathlib.Core.List.{List, [], ◌∷◌, Memᴰ}
use native.Mathlib.Omega.{arith}
use lib.ListN.{length}
use borrow.Author.Tests.{ltb-false}
use Rattle.spec_file.specs.Over.{over}
use Rattle.spec_file.specs.Program.{Program}
use Rattle.spec_schedules.specs.Lists.{find}
use Rattle.spec_schedules.specs.Order.{Schedule}
use Rattle.spec_schedules.specs.System.{System, Lawful, ended}
use Rattle.spec_schedules.specs.Calls.{Answer, found, nomore, refused, offer, answer_to, content, short}
use Rattle.spec_schedules.proofs.Offered.{offer_in, answer_short, answer_none, answer_some, content_found}
use Rattle.spec_schedules.proofs.FirstIn.{find_in}
use Rattle.spec_model.specs.Model.{Model, failing}
use Rattle.spec_model.specs.Laws.{Admitted, Laws}
use Rattle.spec_model.specs.Alike.{list_of}
use Rattle.spec_model.specs.Answers.{start_of, refuses_from, continued, continue_of, Violation, fails_first, none_fails, refused_by, violation_by, violation_content, violation_of}
use Rattle.spec_model.proofs.TheList.{list_ascends}

-- a refusal's number is at most n, its place at most k
abbrev pub Small : ℕ → ℕ → Option (ℕ × ℕ) → Type 0
Small n k none = Unit {0}
Small n k (some r) = (r.0 ≤ n) × (r.1 ≤ k)

-- what refuses a schedule stands at most as far behind as the state allows steps
pub refuses_small : (M : System) → Lawful M → (s : Schedule) (k : ℕ) (σ : M.State) → Small 21 (k + M.size σ) (refuses_from M k σ s)
unfolding refuses_from
refuses_small M L [] k σ = go (ended M σ) refl
  where
    go : (b : Bool) → ended M σ ≡ b → Small 21 (k + M.size σ) (refuses_from M k σ [])
    go true e = rw (e, refuses_from) tt
    go false e = rw (e, refuses_from) (omega arith, omega arith)
refuses_small M L (b ∷ s) k σ = go (M.enabled σ b) refl (refuses_small M L s (suc k) (M.step σ b))
  where
    less_far : (o : Option (ℕ × ℕ)) → M.enabled σ b ≡ true → Small 21 (suc k + M.size (M.step σ b)) o → Small 21 (k + M.size σ) o
    less_far none e h = tt
    less_far (some r) e h = (h.0, omega (arith, h.1, L.falls σ b e))

    go : (c : Bool) → M.enabled σ b ≡ c → Small 21 (suc k + M.size (M.step σ b)) (refuses_from M (suc k) (M.step σ b) s) → Small 21 (k + M.size σ) (refuses_from M k σ (b ∷ s))
    go true e h = rw (e, refuses_from) (less_far (refuses_from M (suc k) (M.step σ b) s) e h)
    go false e h = rw (e, refuses_from) (omega arith, omega arith)

module _ (M : Model) (p : Program) where
  -- a member of the list that fits the output; else a small refusal, or none
  abbrev pub Within : List ℕ → Answer → Type 0
  Within out (found s) = Memᴰ s (list_of M p) × (M.need ≤ length out)
  Within out nomore = Unit {0}
  Within out (refused n k) = (n ≤ 22) × (k ≤ M.steps)

  abbrev pub ViolationWithin : List ℕ → Violation → Type 0
  ViolationWithin out (fails_first s) = Memᴰ s (list_of M p) × (M.need ≤ length out)
  ViolationWithin out none_fails = Unit {0}
  ViolationWithin out (refused_by n k) = (n ≤ 22) × (k ≤ M.steps)

  -- s was answered: it is listed, there is room for it, and it stands over the front of the output behind the call
  abbrev pub Stands : List ℕ → Schedule → List ℕ → Type 0
  Stands out s behind = Memᴰ s (list_of M p) × (M.need ≤ length out) × (behind ≡ over s out)

module _ (M : Model) (L : Laws M) (p : Program) (out : List ℕ) where
  answer_within : (b : Bool) → short M.need out ≡ b → (l o : Option Schedule) → offer (list_of M p) l ≡ o → Within M p out (answer_to b o)
  answer_within true e l o q = subst (Within M p out) (sym (answer_short o)) (omega arith, omega arith)
  answer_within false e l none q = subst (Within M p out) (sym answer_none) tt
  answer_within false e l (some s) q = subst (Within M p out) (sym (answer_some s)) (offer_in (list_of M p) l s q, ltb-false (length out) M.need e)

  pub start_within : Within M p out (start_of M p out).0
  unfolding start_of
  start_within = answer_within (short M.need out) refl none (offer (list_of M p) none) refl

  pub continue_within : Admitted M p → (s : Schedule) → Within M p out (continue_of M p s out).0
  unfolding continue_of continued
  continue_within a s = go (short M.need out) refl
    where
      refusal : Option (ℕ × ℕ)
      refusal = refuses_from M.system 0 (M.start p) s

      by : short M.need out ≡ false → (r : Option (ℕ × ℕ)) → Small 21 (0 + M.system.size (M.start p)) r → Within M p out (continued r (offer (list_of M p) (some s)))
      by e none h = answer_within false e (some s) (offer (list_of M p) (some s)) refl
      by e (some r) h = (omega (arith, h.0), omega (arith, h.1, (L.program p a).bound))

      go : (b : Bool) → short M.need out ≡ b → Within M p out (elim b [ true ↦ refused 22 0 | false ↦ continued refusal (offer (list_of M p) (some s)) ])
      go true e = (omega arith, omega arith)
      go false e = by e refusal (refuses_small M.system L.steps.lawful s 0 (M.start p))

  pub violation_within : ViolationWithin M p out (violation_of M p out).0
  unfolding violation_of violation_by
  violation_within = go (short M.need out) refl (find (failing M p) (list_of M p)) refl
    where
      go : (b : Bool) → short M.need out ≡ b → (o : Option Schedule) → find (failing M p) (list_of M p) ≡ o → ViolationWithin M p out (violation_by b o)
      go true e o q = (omega arith, omega arith)
      go false e none q = tt
      go false e (some s) q = ((find_in (failing M p) (list_of M p) (list_ascends M L p) s q).0, ltb-false (length out) M.need e)

  module _ (s : Schedule) where
    by_answer : (a : Answer) → Within M p out a → a ≡ found s → Stands M p out s (content a out)
    by_answer a h e = let r = subst (Within M p out) e h in (r.0, r.1, ap (λ (x : Answer). content x out) e ∙ content_found s out)

    pub start_stands : (start_of M p out).0 ≡ found s → Stands M p out s (start_of M p out).1
    unfolding start_of
    start_stands e = by_answer (start_of M p out).0 start_within e

    pub continue_stands : Admitted M p → (r : Schedule) → (continue_of M p r out).0 ≡ found s → Stands M p out s (continue_of M p r out).1
    unfolding continue_of
    continue_stands a r e = by_answer (continue_of M p r out).0 (continue_within a r) e

    pub violation_stands : (violation_of M p out).0 ≡ fails_first s → Stands M p out s (violation_of M p out).1
    unfolding violation_of violation_content
    violation_stands e = let r = subst (ViolationWithin M p out) e violation_within in (r.0, r.1, ap (λ (v : Violation). violation_content v out) e)
