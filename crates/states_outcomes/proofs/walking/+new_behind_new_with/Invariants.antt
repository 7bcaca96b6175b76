-- `new_with` and `new_behind` call each other, with one step fewer left each time round. `new_behind`'s invariant: the known outcomes stay, none with a
-- step before t is the first, and the marks stay true.
use Rattle.std.proofs.Common.{◌-◌, ◌+◌, take}
use Rattle.states_outcomes.specs.Swept.{Kept}
use Rattle.states_outcomes.proofs.FirstNew.{Still}
use Rattle.states_outcomes.proofs.walking.+new_behind_new_with.Given as goal

abbrev pub decreases-new_behind : goal.decreases-new_behind
decreases-new_behind l = (24 - l.x.now.place.steps) + (24 - l.x.now.place.steps) + 1

abbrev pub decreases-new_with : goal.decreases-new_with
decreases-new_with l = (24 - l.x.now.place.steps) + (24 - l.x.now.place.steps)

-- ---- new_behind
abbrev pub invariant-new_behind-loop-t : goal.invariant-new_behind-loop-t
invariant-new_behind-loop-t l =
    Kept l.frame.cut l.initial.lent l.lent × Still l.setup.program.code l.setup.program.lengths l.setup.program.class l.frame l.x (take l.frame.cut l.initial.lent) l.initial.lent l.lent l.t
