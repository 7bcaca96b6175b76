-- `stepped` adds the location of an access to its thread's way, and makes the step.
use Rattle.std.proofs.Common.{rules, ◌≡◌, arith, length}
use Rattle.tso_states.proofs.NextSpot.{row_within, ways_access, ways_move}
use Rattle.tso_states.proofs.stepping.stepped.Goals.{else-b-lt6, then-b-lt6}
use Rattle.tso_states.proofs.stepping.stepped.Goals as goal

pub overflow_add-u : goal.overflow_add-u
overflow_add-u c =
    let a = c.args in
    let q = c.requires in
    let h = row_within a.program.now.code a.program.now.lengths a.program.now.class q.0 q.1 a.x.now q.2 q.3 q.4 a.b q.5 c.if-b-lt6.true c.wide-u.result c.wide-u.ensures.same in
    omega (arith, h)

pub location_at-l-requires : goal.location_at-l-requires
location_at-l-requires c =
    let a = c.args in
    let q = c.requires in
    row_within a.program.now.code a.program.now.lengths a.program.now.class q.0 q.1 a.x.now q.2 q.3 q.4 a.b q.5 c.if-b-lt6.true c.wide-u.result c.wide-u.ensures.same

pub advanced-requires : goal.advanced-requires
advanced-requires c =
    let q = c.requires in
    (q.0, q.1, q.2, q.3, q.4.reached, q.5)

pub returns : goal.returns
returns c threads groups p v at ok =
    let a = c.args in
    let six : length a.x.now.ways ≡ 6 = search rules in record {
      reached = c.advanced.ensures threads groups p v at.reached ok;
      ways = elim c.if-b-lt6.branch [
        | then-b-lt6 w ↦ ways_access a.program.now.code a.program.now.lengths a.program.now.class threads groups a.x.now p v at a.b ok w.if-b-lt6.true w.wide-u.result w.location_at-l.result w.way_behind.result c.if-b-lt6.ways w.wide-u.ensures.same six w.location_at-l.ensures w.way_behind.ensures w.ways-is
        | else-b-lt6 w ↦ ways_move a.program.now.code a.program.now.lengths a.program.now.class threads groups a.x.now p v at a.b ok w.if-b-lt6.false c.if-b-lt6.ways w.ways-is
      ];
    }
