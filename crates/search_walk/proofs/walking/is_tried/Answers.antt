-- `is_tried` asks one question after the other.
use Rattle.std.proofs.Common.{ℕ, sym, ap, ◌∙◌}
use borrow.Author.Tests.{not-true, not-false}
use Rattle.spec_schedules.specs.Sets.{has}
use Rattle.search_place.proofs.ReachedStep.{reached_live}
use Rattle.search_walk.proofs.TriedSteps.{tried_ended, tried_late, tried_twin}
use Rattle.search_walk.proofs.walking.is_tried.Goals.{then-is_in, else-is_in}
use Rattle.search_walk.proofs.walking.is_tried.Goals as goal

pub returns-then-not-is_in : goal.returns-then-not-is_in
returns-then-not-is_in c =
    let a = c.args in
    λ code lengths threads groups x p v at ew el em.
    let live = sym (reached_live code lengths a.class.now threads groups x p v at a.t c.requires) ∙ ap (λ (s : ℕ). has s a.t) el ∙ sym c.is_in.ensures in
    let late = ap (λ (s : ℕ). has s a.t) (sym at.late ∙ em) in
    elim c.if-is_in.branch [
      | then-is_in w ↦ tried_twin p v a.t (live ∙ w.if-is_in.true) (late ∙ sym w.is_in-then-is_in.ensures ∙ not-true _ (sym w.value-is ∙ c.if-not-is_in.true))
          c.has_smaller_twin.result (c.has_smaller_twin.ensures code lengths threads groups x p v at ew)
      | else-is_in w ↦ absurd (cc)
    ]

pub returns-else-not-is_in : goal.returns-else-not-is_in
returns-else-not-is_in c =
    let a = c.args in
    λ code lengths threads groups x p v at ew el em.
    let live = sym (reached_live code lengths a.class.now threads groups x p v at a.t c.requires) ∙ ap (λ (s : ℕ). has s a.t) el ∙ sym c.is_in.ensures in
    let late = ap (λ (s : ℕ). has s a.t) (sym at.late ∙ em) in
    c.if-not-is_in.false ∙ elim c.if-is_in.branch [
      | then-is_in w ↦ tried_late p v a.t (live ∙ w.if-is_in.true) (late ∙ sym w.is_in-then-is_in.ensures ∙ not-false _ (sym w.value-is ∙ c.if-not-is_in.false))
      | else-is_in w ↦ tried_ended p v a.t (live ∙ w.if-is_in.false)
    ]
