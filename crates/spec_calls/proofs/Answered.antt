-- What a call answers with an output of so many bytes, by what there is to answer.
use Prim.Native.Nat.{ℕ, ◌<◌, ◌≤◌}
use mathlib.Core.Path.{◌≡◌, ap, ap₂, ◌∙◌}
use mathlib.Core.Bool.{Bool}
use mathlib.Core.List.{List}
use mathlib.Core.Option.{Option, none, some}
use lib.ListN.{length}
use borrow.Author.Tests.{lt-ltb, le-ltb}
use Rattle.spec_schedules.specs.Order.{Schedule}
use Rattle.spec_schedules.specs.Calls.{found, nomore, refused, answer_to, short, content, Result}
use Rattle.spec_schedules.proofs.Offered as Offered
use Rattle.spec_schedules.proofs.Offered.{content_refused}

module _ (need : ℕ) (out : List ℕ) (o : Option Schedule) where
  pub answer_short : length out < need → answer_to (short need out) o ≡ refused 22 0
  answer_short h = ap (λ (b : Bool). answer_to b o) (lt-ltb (length out) need h) ∙ Offered.answer_short o

  pub answer_none : need ≤ length out → o ≡ none → answer_to (short need out) o ≡ nomore
  answer_none h e = ap₂ answer_to (le-ltb (length out) need h) e ∙ Offered.answer_none

  pub answer_some : (s : Schedule) → need ≤ length out → o ≡ some s → answer_to (short need out) o ≡ found s
  answer_some s h e = ap₂ answer_to (le-ltb (length out) need h) e ∙ Offered.answer_some s

-- a refusal changes no byte of the output
pub unchanged : (n k : ℕ) (out : List ℕ) → ◌≡◌ {A = Result} (refused n k, content (refused n k) out) (refused n k, out)
unchanged n k out = ap {B = Result} (λ (l : List ℕ). (refused n k, l)) (content_refused n k out)
