-- `plain_with` and `plain_among` call each other, with one step fewer left each time round. `plain_among`'s invariant: none with a step before t is the first.
use Rattle.std.proofs.Common.{◌-◌, ◌+◌}
use Rattle.states_walk.proofs.SoughtTurns.{Sought}
use Rattle.states_walk.proofs.seeking_plainly.+plain_among_plain_with.Given as goal

-- twice the steps left, and which of the two calls which
abbrev pub decreases-plain_among : goal.decreases-plain_among
decreases-plain_among l = (24 - l.x.now.steps) + (24 - l.x.now.steps) + 1

abbrev pub decreases-plain_with : goal.decreases-plain_with
decreases-plain_with l = (24 - l.x.now.steps) + (24 - l.x.now.steps)

abbrev pub invariant-plain_among-loop-t : goal.invariant-plain_among-loop-t
invariant-plain_among-loop-t l = Sought l.program.code l.program.lengths l.program.class l.x l.t
