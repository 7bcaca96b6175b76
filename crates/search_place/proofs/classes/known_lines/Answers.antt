-- `known_lines` has gone over all six.
use Rattle.std.proofs.Common.{arith}
use Rattle.search_place.proofs.ClassGroups.{all_known}
use Rattle.search_place.proofs.classes.known_lines.Goals as goal

pub returns : goal.returns
returns c = let loop = c.loop-t in all_known c.args.class loop.known c.args.groups (λ t h. loop.invariant.before t (omega (arith, c.loop-t-test.false)))
