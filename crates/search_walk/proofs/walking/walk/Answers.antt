use Rattle.std.proofs.Common.{refl, sym, ◌∙◌, arith}
use Rattle.theory_sc.proofs.Search.{behind_stuck}
use Rattle.search_place.proofs.ReachedStep.{reached_most, reached_ended, reached_going}
use Rattle.spec_model.specs.Model.{failing}
use Rattle.spec_sc.specs.Sequential.{sc}
use Rattle.listing_cursor.specs.Bounds.{bound_at}
use Rattle.listing_cursor.proofs.AddedRows.{adds_none, adds_same}
use Rattle.search_tail.proofs.BoundEnd.{bound_met, bound_apart}
use Rattle.search_walk.proofs.WalkLoop.{rest_start, iteration_tried, iteration_skipped, rest_over, rest_full}
use Rattle.search_walk.proofs.walking.walk.Goals.{else-is_tried, then-is_tried}
use Rattle.search_walk.proofs.walking.walk.Goals as goal

pub returns-then-a : goal.returns-then-a
returns-then-a c =
    let pre = c.requires in
    let a = c.args in record {
      within = pre.2;
      added = λ threads groups p v at. rw c.if-a.true (adds_none 24 (failing sc p) a.a.room _ a.out.now a.a.rows
          (bound_met a.a.failures p a.x.steps v a.bound.now (reached_ended a.program.now.code a.program.now.lengths a.program.now.class threads groups a.x p v at c.if-x-eq0.true)));
    }

pub at_end-requires : goal.at_end-requires
at_end-requires c =
    let pre = c.requires in
    let a = c.args in
    let e = pre.0 in
    (reached_most a.program.now.code a.program.now.lengths a.program.now.class e.0 e.1 a.x e.2 e.3 e.4, pre.2, pre.3)

pub returns-then-x-eq0 : goal.returns-then-x-eq0
returns-then-x-eq0 c =
    let a = c.args in
    let at-end = c.at_end in record {
      within = at-end.ensures.within;
      added = λ threads groups p v at.
          rw c.if-a.false (adds_same 24 (failing sc p) a.a.room _ _ a.out.now _ a.a.rows _ (bound_apart a.a.failures p a.x.steps v a.bound.now)
          (at-end.ensures.added a.program.now.code a.program.now.lengths a.program.now.class threads groups p v at (reached_ended a.program.now.code a.program.now.lengths a.program.now.class threads groups a.x p v at c.if-x-eq0.true)));
    }

pub returns-then-x-ge-STEPS : goal.returns-then-x-ge-STEPS
returns-then-x-ge-STEPS c =
    let pre = c.requires in
    let a = c.args in record {
      within = pre.2;
      added = λ threads groups p v at. adds_none 24 (failing sc p) a.a.room _ a.out.now a.a.rows
          (behind_stuck a.a.failures p a.x.steps v (bound_at a.a.tight a.bound.now a.x.steps) (reached_going a.program.now.code a.program.now.lengths a.program.now.class threads groups a.x p v at c.if-x-eq0.false) c.if-x-ge-STEPS.true);
    }

pub loop-t-init : goal.loop-t-init
loop-t-init c =
    let pre = c.requires in
    let a = c.args in (
      pre.2,
      refl,
      rest_start a.program.now.code a.program.now.lengths a.program.now.class a.a.failures a.x (bound_at a.a.tight a.bound.now a.x.steps) a.out.now a.a.room a.a.rows c.first_byte-t.result
          (λ threads groups p v at. reached_going a.program.now.code a.program.now.lengths a.program.now.class threads groups a.x p v at c.if-x-eq0.false) c.if-x-ge-STEPS.false c.first_byte-t.ensures,
    )

pub returns-then-a-n : goal.returns-then-a-n
returns-then-a-n c =
    let a = c.args in
    let loop = c.loop-t in
    record { within = loop.invariant.0; added = rest_full a.program.now.code a.program.now.lengths a.program.now.class a.a.failures a.x (bound_at a.a.tight a.bound.now a.x.steps) a.out.now a.a.room a.a.rows loop.out loop.n loop.t c.if-a-n.true loop.invariant.2 }

pub is_tried-requires : goal.is_tried-requires
is_tried-requires c = c.loop-t-test.true

pub visit-n-requires : goal.visit-n-requires
visit-n-requires c =
    let pre = c.requires in
    let a = c.args in
    let loop = c.loop-t in
    let asked = c.is_tried in (pre.0, pre.1, loop.invariant.0, omega (arith, pre.3, loop.invariant.1), λ threads groups p v at. sym (asked.ensures a.program.now.code a.program.now.lengths threads groups a.x p v at refl refl refl) ∙ c.if-is_tried.true)

-- with a step that is tried, and with one that is not
pub loop-t-preserved : goal.loop-t-preserved
loop-t-preserved c =
    let a = c.args in
    let loop = c.loop-t in
    let in-loop = c.loop-t-test.true in
    elim c.if-is_tried.branch [
      | then-is_tried w ↦ iteration_tried a.program.now.code a.program.now.lengths a.program.now.class a.a.failures a.x (bound_at a.a.tight a.bound.now a.x.steps) a.out.now a.a.room a.a.rows loop.out _ c.if-is_tried.out loop.n _ c.if-is_tried.n loop.t in-loop loop.invariant.1 loop.invariant.2
          w.visit-n.ensures.within w.visit-n.auto.out w.visit-n.ensures.added w.out-is w.n-is
      | else-is_tried w ↦ iteration_skipped a.program.now.code a.program.now.lengths a.program.now.class a.a.failures a.x (bound_at a.a.tight a.bound.now a.x.steps) a.out.now a.a.room a.a.rows loop.out c.if-is_tried.out loop.n c.if-is_tried.n loop.t in-loop loop.invariant.0 loop.invariant.1 loop.invariant.2
          (λ threads groups p v at. sym (c.is_tried.ensures a.program.now.code a.program.now.lengths threads groups a.x p v at refl refl refl) ∙ w.if-is_tried.false) w.out-is w.n-is
    ]

pub returns : goal.returns
returns c =
    let a = c.args in
    let loop = c.loop-t in
    record { within = loop.invariant.0; added = rest_over a.program.now.code a.program.now.lengths a.program.now.class a.a.failures a.x (bound_at a.a.tight a.bound.now a.x.steps) a.out.now a.a.room a.a.rows loop.out loop.n loop.t c.loop-t-test.false loop.invariant.2 }
