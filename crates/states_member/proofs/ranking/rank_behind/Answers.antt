use Rattle.std.proofs.Common.{◌≤◌, refl, sym, ◌∙◌, arith, get_or}
use Rattle.spec_sc.specs.Graph.{end_of}
use Rattle.spec_sc.proofs.Steps.{enabled_small}
use Rattle.states_member.proofs.Ranks.{along_start, along_enabled, along_up, along_next, along_over}
use Rattle.states_member.proofs.ranking.rank_behind.Goals as goal

pub loop-b-init : goal.loop-b-init
loop-b-init c =
    let a = c.args in
    (refl, omega arith, along_start a.setup.now.program.code a.setup.now.program.lengths a.setup.now.program.class a.shape.width a.shape.slots a.x.now a.table.now a.schedule.now)

pub smaller-n-requires : goal.smaller-n-requires
smaller-n-requires c =
    let a = c.args in
    let pre = c.requires in
    let e = pre.0 in
    let loop = c.loop-b in
    let here = along_enabled a.setup.now.program.code a.setup.now.program.lengths a.setup.now.program.class a.shape.width a.shape.slots a.x.now a.table.now a.schedule.now loop.y loop.table loop.sum.listed loop.b-index loop.invariant.2
    c.loop-b-test.true (e.0, e.1, e.2, e.3, e.4) e.5 in
    let h : get_or a.schedule.now loop.b-index 0 ≤ 6 = omega (arith, enabled_small (end_of e.2 here.0) (get_or a.schedule.now loop.b-index 0) here.2) in
    ((e.0, e.1, e.2, here.0, here.1), pre.1, pre.2, pre.3, h)

pub gives_up-requires : goal.gives_up-requires
gives_up-requires c =
    let a = c.args in
    let pre = c.requires in
    let e = pre.0 in
    let loop = c.loop-b in
    let here = along_enabled a.setup.now.program.code a.setup.now.program.lengths a.setup.now.program.class a.shape.width a.shape.slots a.x.now a.table.now a.schedule.now loop.y loop.table loop.sum.listed loop.b-index loop.invariant.2
    c.loop-b-test.true (e.0, e.1, e.2, e.3, e.4) e.5 in
    ((e.0, e.1, e.2, here.0, here.1, here.2), pre.1)

-- its own step is given up
pub returns-then-gives_up : goal.returns-then-gives_up
returns-then-gives_up c =
    let a = c.args in
    let loop = c.loop-b in
    let smaller = c.smaller-n in
    let added = c.added-sum in record {
      words = smaller.ensures.words ∙ loop.invariant.0;
      number = λ threads groups p v at full wide right.
          along_up a.setup.now.program.code a.setup.now.program.lengths a.setup.now.program.class a.shape.width a.shape.slots a.x.now a.table.now a.schedule.now loop.y loop.table _ loop.sum.listed loop.b-index
          smaller.result.listed smaller.result.failing _ loop.invariant.2 c.loop-b-test.true smaller.ensures.numbers added.ensures.0
          (λ threads groups p v at ok. sym c.if-gives_up.true ∙ c.gives_up.ensures threads groups p v at ok) (omega (arith, added.ensures.0)) (threads, groups, p, v, at) full wide right;
    }

pub advance-requires : goal.advance-requires
advance-requires c =
    let a = c.args in
    let e = c.requires.0 in
    let loop = c.loop-b in
    let here = along_enabled a.setup.now.program.code a.setup.now.program.lengths a.setup.now.program.class a.shape.width a.shape.slots a.x.now a.table.now a.schedule.now loop.y loop.table loop.sum.listed loop.b-index loop.invariant.2
    c.loop-b-test.true (e.0, e.1, e.2, e.3, e.4) e.5 in
    (a.setup.now.program.class, e.0, e.1, e.2, here.0, here.1, here.2)

pub loop-b-preserved : goal.loop-b-preserved
loop-b-preserved c =
    let a = c.args in
    let loop = c.loop-b in
    let smaller = c.smaller-n in
    let added = c.added-sum in (
      smaller.ensures.words ∙ loop.invariant.0,
      omega (arith, added.ensures.0),
      along_next a.setup.now.program.code a.setup.now.program.lengths a.setup.now.program.class a.shape.width a.shape.slots a.x.now a.table.now a.schedule.now loop.y loop.table _ loop.sum.listed loop.b-index
          smaller.result.listed smaller.result.failing _ loop.invariant.2 c.loop-b-test.true smaller.ensures.numbers added.ensures.0
          (λ threads groups p v at ok. sym c.if-gives_up.false ∙ c.gives_up.ensures threads groups p v at ok) c.advance.new.x c.advance.ensures,
    )

-- the schedule's end
pub returns : goal.returns
returns c =
    let a = c.args in
    let loop = c.loop-b in record {
      words = loop.invariant.0;
      number = λ threads groups p v at full wide right.
          along_over a.setup.now.program.code a.setup.now.program.lengths a.setup.now.program.class a.shape.width a.shape.slots a.x.now a.table.now a.schedule.now loop.y loop.table loop.sum.listed loop.b-index c.loop-b-test.false loop.invariant.1 loop.invariant.2 (threads, groups, p, v, at) full wide right;
    }
