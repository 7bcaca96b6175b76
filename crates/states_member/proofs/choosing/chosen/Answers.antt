use Rattle.std.proofs.Common.{refl, sym, ap, ◌∙◌, length}
use Rattle.search_walk.proofs.TriedSteps.{tried_enabled}
use Rattle.states_member.proofs.Choices.{seeks_start, seeks_found, seeks_passed, seeks_skipped, seeks_over}
use Rattle.states_member.proofs.choosing.chosen.Goals.{else-is_tried, then-is_tried+else-i-n}
use Rattle.states_member.proofs.choosing.chosen.Goals as goal

pub loop-t-init : goal.loop-t-init
loop-t-init c =
    let a = c.args in
    (refl, seeks_start a.setup.now.program.code a.setup.now.program.lengths a.setup.now.program.class a.shape.width a.shape.slots a.x.now a.table.now a.i)

pub visit-n-requires : goal.visit-n-requires
visit-n-requires c =
    let pre = c.requires in
    let a = c.args in
    (pre.0, pre.1, pre.2, pre.3, λ threads groups p v at. sym (c.is_tried.ensures a.setup.now.program.code a.setup.now.program.lengths threads groups a.x.now.place p v at.reached refl refl refl) ∙ c.if-is_tried.true)

-- t leads to the member
pub returns-then-i-n : goal.returns-then-i-n
returns-then-i-n c =
    let a = c.args in
    let loop = c.loop-t in
    let visit = c.visit-n in record {
      words = visit.ensures.words ∙ loop.invariant.0;
      step = (λ threads groups p v at. tried_enabled p v loop.t
          (sym (c.is_tried.ensures a.setup.now.program.code a.setup.now.program.lengths threads groups a.x.now.place p v at.reached refl refl refl) ∙ c.if-is_tried.true));
      leads = λ threads groups p v at going wide right.
          let r = seeks_found a.setup.now.program.code a.setup.now.program.lengths a.setup.now.program.class a.shape.width a.shape.slots a.x.now a.table.now a.i loop.table _ loop.i
          visit.result.listed visit.result.failing loop.t c.loop-t-test.true loop.invariant.1
          (λ threads groups p v at. sym (c.is_tried.ensures a.setup.now.program.code a.setup.now.program.lengths threads groups a.x.now.place p v at.reached refl refl refl) ∙ c.if-is_tried.true)
          visit.ensures.numbers c.if-i-n.true (threads, groups, p, v, at) going wide right in
          r;
    }

-- t is passed over, or not tried
pub loop-t-preserved : goal.loop-t-preserved
loop-t-preserved c =
    let a = c.args in
    let loop = c.loop-t in
    let in-loop = c.loop-t-test.true in
    elim c.if-is_tried.branch [
      | then-is_tried+else-i-n w ↦ (
        ap length w.table-is ∙ w.visit-n.ensures.words ∙ loop.invariant.0,
        seeks_passed a.setup.now.program.code a.setup.now.program.lengths a.setup.now.program.class a.shape.width a.shape.slots a.x.now a.table.now a.i loop.table _ c.if-is_tried.table loop.i c.if-is_tried.i
            w.visit-n.result.listed w.visit-n.result.failing loop.t in-loop loop.invariant.1 w.visit-n.ensures.numbers w.if-i-n.false w.table-is w.i-is,
      )
      | else-is_tried w ↦ (
        ap length w.table-is ∙ loop.invariant.0,
        seeks_skipped a.setup.now.program.code a.setup.now.program.lengths a.setup.now.program.class a.shape.width a.shape.slots a.x.now a.table.now a.i loop.table c.if-is_tried.table loop.i c.if-is_tried.i loop.t
            in-loop loop.invariant.1 (λ threads groups p v at. sym (c.is_tried.ensures a.setup.now.program.code a.setup.now.program.lengths threads groups a.x.now.place p v at.reached refl refl refl) ∙ w.if-is_tried.false) w.table-is w.i-is,
      )
    ]

-- no step is left
pub returns-clause-leads : goal.returns-clause-leads
returns-clause-leads c threads groups p v at going wide right =
    let a = c.args in
    let loop = c.loop-t in
    seeks_over a.setup.now.program.code a.setup.now.program.lengths a.setup.now.program.class a.shape.width a.shape.slots a.x.now a.table.now a.i loop.table loop.i loop.t c.loop-t-test.false
    loop.invariant.1 (threads, groups, p, v, at) going wide right
