-- `is_near` makes one test after the other.
use Rattle.std.proofs.Common.{◌∙◌}
use Rattle.states_key.specs.Stands.{carried}
use Rattle.states_key.proofs.NearSets.{near_self, near_alone, near_other, near_behind}
use Rattle.states_key.proofs.nearness.is_near.Goals.{then-t-u-via-then-t-u, then-t-u-via-else-t-u+then-g-eq0, then-t-u-via-else-t-u+else-g-eq0+then-class-t}
use Rattle.states_key.proofs.nearness.is_near.Goals as goal

pub returns-then-t-u : goal.returns-then-t-u
returns-then-t-u c =
    let a = c.args in
    let m = carried a.x.now in λ groups p lines.
    elim c.then-t-u.branch [
      | then-t-u-via-then-t-u w ↦ near_self a.class.now groups p lines m a.x.now.ways a.t a.u w.if-t-u.true
      | then-t-u-via-else-t-u+then-g-eq0 w ↦ near_alone a.class.now groups p lines m a.x.now.ways a.t a.u w.if-g-eq0.true
      | then-t-u-via-else-t-u+else-g-eq0+then-class-t w ↦
          near_other a.class.now groups p lines m a.x.now.ways a.t a.u c.requires.0 c.requires.1 w.if-g-eq0.false w.if-class-t.true
    ]

pub returns : goal.returns
returns c =
    let a = c.args in
    let m = carried a.x.now in
    λ groups p lines. c.is_behind.ensures ∙ near_behind a.class.now groups p lines m a.x.now.ways a.t a.u c.requires.0 c.requires.1 c.if-g-eq0.false c.if-t-u.false c.if-class-t.false
