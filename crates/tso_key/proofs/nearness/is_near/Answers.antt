-- `is_near` asks first whether both are of one `02` line.
use Rattle.std.proofs.Common.{sym}
use Rattle.tso_key.proofs.LedBack.{near_self, near_alone, near_other, near_behind}
use Rattle.tso_key.proofs.nearness.is_near.Goals.{then-t-u-via-then-t-u, then-t-u-via-else-t-u+then-g-eq0, then-t-u-via-else-t-u+else-g-eq0+then-class-u}
use Rattle.tso_key.proofs.nearness.is_near.Goals as goal

pub returns-then-t-u : goal.returns-then-t-u
returns-then-t-u c = let a = c.args in elim c.then-t-u.branch [
  | then-t-u-via-then-t-u w ↦ record { says = λ groups p lined. near_self a.class.now groups p lined a.last.now a.words.now a.ways.now a.t a.u w.if-t-u.true }
  | then-t-u-via-else-t-u+then-g-eq0 w ↦ record { says = λ groups p lined. sym (near_alone a.class.now groups p lined a.last.now a.words.now a.ways.now a.t a.u w.if-g-eq0.true) }
  | then-t-u-via-else-t-u+else-g-eq0+then-class-u w ↦ record { says = λ groups p lined. near_other a.class.now groups p lined a.last.now a.words.now a.ways.now a.t a.u c.requires.0 c.requires.1 w.if-g-eq0.false w.if-class-u.true }
]

pub returns : goal.returns
returns c =
    let a = c.args in record {
      says = λ groups p lined. near_behind a.class.now groups p lined a.last.now a.words.now a.ways.now a.t a.u c.requires.0 c.requires.1 c.if-g-eq0.false
          c.if-t-u.false c.if-class-u.false c.is_behind.result c.is_behind.ensures;
    }
