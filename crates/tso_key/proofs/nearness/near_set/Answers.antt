-- `near_set` asks of each of the six.
use Rattle.std.proofs.Common.{rules}
use Rattle.tso_key.specs.Carried.{IsNear, carried_near}
use Rattle.tso_key.proofs.LedBack.{set_alone}
use Rattle.tso_key.proofs.nearness.near_set.Goals as goal

pub returns-then-class-t-eq0 : goal.returns-then-class-t-eq0
returns-then-class-t-eq0 c groups p lined = let a = c.args in set_alone a.class.now groups p lined a.last.now a.words.now a.ways.now a.t c.if-class-t-eq0.true

pub returns : goal.returns
returns c groups p lined =
    let a = c.args in
    c.six.ensures (carried_near p a.last.now a.words.now a.ways.now a.t)
    (λ u r six did. let g : IsNear a.class.now a.last.now a.words.now a.ways.now a.t u r = search rules in g.says groups p lined)
