-- `farther` asks each of the six.
use Rattle.std.proofs.Common.{◌+◌, sym, not, ◌&&◌, ◌||◌, eqb, ltb, rules}
use Rattle.spec_schedules.specs.Sets.{has}
use Rattle.spec_schedules.specs.Lists.{range, any}
use Rattle.theory_sc.specs.ThreadWords.{twin_by_word}
use Rattle.tso_order.proofs.Choices.{none_farther}
use Rattle.tso_place.specs.Farther.{IsFarther}
use Rattle.tso_place.proofs.choosing.farther.Goals as goal

pub returns-then-is_none_smaller : goal.returns-then-is_none_smaller
returns-then-is_none_smaller c = let a = c.args in let q = c.is_none_smaller.ensures c.if-is_none_smaller.true in λ groups p lines. sym (none_farther (λ t u. twin_by_word p a.words.now t u) a.may a.before a.b q.0 q.1)

pub returns : goal.returns
returns c =
    let a = c.args in
    λ groups p lines. c.six.ensures (λ t. has a.may t && (not (eqb a.b (t + 16)) && (any (λ u. twin_by_word p a.words.now t u && ltb (u + 16) a.b) (range 0 t) || has a.before t)))
    (λ t r six did. let g : IsFarther a.class.now a.words.now a.may a.before a.b t r = search rules in g.says groups p lines)
