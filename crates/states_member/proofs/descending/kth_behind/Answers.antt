use Rattle.std.proofs.Common.{refl, ap, ◌∙◌, ◌≡◌, rules, None}
use Rattle.listing_cursor.specs.Steps.{found_of}
use Rattle.search_place.proofs.ReachedStep.{reached_most}
use Rattle.states_walk.proofs.Numbered.{step_less}
use Rattle.states_member.proofs.Descent.{descends_start, descends_next, descends_none, descends_over}
use Rattle.states_member.proofs.descending.kth_behind.Goals as goal

pub loop-y-init : goal.loop-y-init
loop-y-init c =
    let a = c.args in
    (refl, descends_start a.setup.now.program.code a.setup.now.program.lengths a.setup.now.program.class a.shape.width a.shape.slots a.x.now a.table.now a.k)

pub chosen-requires : goal.chosen-requires
chosen-requires c =
    let pre = c.requires in
    let here = c.loop-y.invariant.1 pre.0 in
    ((pre.0.0, pre.0.1, pre.0.2, here.0, here.1), pre.1, pre.2, pre.3)

-- there are not so many
pub returns-in_err-c-clause-member : goal.returns-in_err-c-clause-member
returns-in_err-c-clause-member c threads groups p v at wide right =
    let a = c.args in
    let loop = c.loop-y in
    let none : c.from_residual.result ≡ None = search rules in
    ap found_of none
    ∙ descends_none a.setup.now.program.code a.setup.now.program.lengths a.setup.now.program.class a.shape.width a.shape.slots a.x.now a.table.now a.k loop.y loop.table _ loop.i
    c.loop-y-test.true loop.invariant.1 c.in_err-c.ensures.leads (threads, groups, p, v, at) wide right

pub advance-requires : goal.advance-requires
advance-requires c =
    let e = c.requires.0 in
    let here = c.loop-y.invariant.1 e in
    (c.args.setup.now.program.class, e.0, e.1, e.2, here.0, here.1, c.in_ok-c.ensures.step e.0 e.1 e.2 here.0 here.1)

pub loop-y-smaller : goal.loop-y-smaller
loop-y-smaller c =
    let a = c.args in
    let e = c.requires.0 in
    let loop = c.loop-y in
    let chosen = c.in_ok-c in
    let here = loop.invariant.1 e in
    step_less e.2 here.0 chosen.c.step a.setup.now.program.code a.setup.now.program.lengths a.setup.now.program.class e.0 e.1 c.advance.new.x (c.advance.ensures a.setup.now.program.class e.0 e.1 e.2 here.0 here.1)
    (chosen.ensures.step e.0 e.1 e.2 here.0 here.1) loop.y here.1

pub loop-y-preserved : goal.loop-y-preserved
loop-y-preserved c =
    let a = c.args in
    let loop = c.loop-y in
    let chosen = c.in_ok-c in (
      chosen.ensures.words ∙ loop.invariant.0,
      descends_next a.setup.now.program.code a.setup.now.program.lengths a.setup.now.program.class a.shape.width a.shape.slots a.x.now a.table.now a.k loop.y c.advance.new.x loop.table _
          loop.i chosen.c c.loop-y-test.true loop.invariant.1 chosen.ensures.leads c.advance.ensures,
    )

-- nobody may step
pub returns : goal.returns
returns c =
    let a = c.args in
    let e = c.requires.0 in
    let loop = c.loop-y in
    let here = loop.invariant.1 e in record {
      words = (loop.invariant.0, c.steps_if.ensures.short (reached_most a.setup.now.program.code a.setup.now.program.lengths a.setup.now.program.class e.0 e.1 loop.y.place e.2 here.0 here.1.reached));
      member = λ threads groups p v at wide right.
          c.steps_if.ensures.found
          ∙ descends_over a.setup.now.program.code a.setup.now.program.lengths a.setup.now.program.class a.shape.width a.shape.slots a.x.now a.table.now a.k loop.y loop.table loop.i c.loop-y-test.false
          loop.invariant.1 (threads, groups, p, v, at) wide right;
    }
