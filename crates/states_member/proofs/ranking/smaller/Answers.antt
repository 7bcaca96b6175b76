use Rattle.std.proofs.Common.{◌<◌, refl, sym, ap, ◌∙◌, arith, length}
use Rattle.states_memory.specs.declared.tally.Tally.{Tally}
use Rattle.states_member.proofs.Smaller.{smaller_start, smaller_tried, smaller_skipped, smaller_over}
use Rattle.states_member.proofs.ranking.smaller.Goals.{else-is_tried, then-is_tried}
use Rattle.states_member.proofs.ranking.smaller.Goals as goal

pub loop-t-init : goal.loop-t-init
loop-t-init c =
    let a = c.args in
    (refl, omega arith, omega arith, smaller_start a.setup.now.program.code a.setup.now.program.lengths a.setup.now.program.class a.shape.width a.shape.slots a.x.now a.b a.table.now)

pub is_tried-requires : goal.is_tried-requires
is_tried-requires c = let h : c.loop-t.t < 6 = omega (arith, c.loop-t-test.true, c.requires.4) in h

pub visit-n-requires : goal.visit-n-requires
visit-n-requires c =
    let pre = c.requires in
    let a = c.args in
    (pre.0, pre.1, pre.2, pre.3, λ threads groups p v at. sym (c.is_tried.ensures a.setup.now.program.code a.setup.now.program.lengths threads groups a.x.now.place p v at.reached refl refl refl) ∙ c.if-is_tried.true)

-- with a step that is tried, and with one that is not
pub loop-t-preserved : goal.loop-t-preserved
loop-t-preserved c =
    let a = c.args in
    let loop = c.loop-t in
    let in-loop = c.loop-t-test.true in
    elim c.if-is_tried.branch [
      | then-is_tried w ↦ let el = ap (λ (s : Tally). s.listed) w.sum-is ∙ w.added-sum.ensures.0 in
          let ef = ap (λ (s : Tally). s.failing) w.sum-is ∙ w.added-sum.ensures.1 in (
            ap length w.table-is ∙ w.visit-n.ensures.words ∙ loop.invariant.0,
            omega (arith, el),
            omega (arith, ef),
            smaller_tried a.setup.now.program.code a.setup.now.program.lengths a.setup.now.program.class a.shape.width a.shape.slots a.x.now a.b a.table.now 0 loop.table _ c.if-is_tried.table loop.sum.listed loop.sum.failing _ _
                c.if-is_tried.sum.listed c.if-is_tried.sum.failing loop.t in-loop loop.invariant.3 w.visit-n.ensures.numbers w.table-is el ef,
          )
      | else-is_tried w ↦ let el = ap (λ (s : Tally). s.listed) w.sum-is in
          let ef = ap (λ (s : Tally). s.failing) w.sum-is in (
            ap length w.table-is ∙ loop.invariant.0,
            omega (arith, el, loop.invariant.1),
            omega (arith, ef, loop.invariant.2),
            smaller_skipped a.setup.now.program.code a.setup.now.program.lengths a.setup.now.program.class a.shape.width a.shape.slots a.x.now a.b a.table.now 0 loop.table c.if-is_tried.table loop.sum.listed loop.sum.failing
                c.if-is_tried.sum.listed c.if-is_tried.sum.failing loop.t in-loop loop.invariant.3
                (λ threads groups p v at. sym (c.is_tried.ensures a.setup.now.program.code a.setup.now.program.lengths threads groups a.x.now.place p v at.reached refl refl refl) ∙ w.if-is_tried.false) w.table-is el ef,
          )
    ]

pub returns : goal.returns
returns c =
    let a = c.args in
    let loop = c.loop-t in record {
      words = loop.invariant.0;
      numbers = λ threads groups p v at wide right.
          smaller_over a.setup.now.program.code a.setup.now.program.lengths a.setup.now.program.class a.shape.width a.shape.slots a.x.now a.b a.table.now loop.table loop.sum.listed loop.sum.failing loop.t
          c.loop-t-test.false loop.invariant.1 loop.invariant.2 loop.invariant.3 (threads, groups, p, v, at) wide right;
    }
