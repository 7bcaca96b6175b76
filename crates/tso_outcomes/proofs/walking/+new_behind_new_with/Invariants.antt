-- `new_with` and `new_behind` call each other, with one step fewer left each time round. `new_behind`'s invariant: the known outcomes stay, none with a
-- step before b is the first, and the marks stay true.
use Rattle.std.proofs.Common.{ℕ, ◌-◌, ◌+◌, take}
use Rattle.states_outcomes.specs.Swept.{Kept}
use Rattle.tso_outcomes.proofs.FirstNew.{Still}
use Rattle.tso_outcomes.proofs.walking.+new_behind_new_with.Given as goal

abbrev pub decreases-new_behind : goal.decreases-new_behind
decreases-new_behind l = let n : ℕ = 32 - l.x.now.place.steps in n + n + 1

abbrev pub decreases-new_with : goal.decreases-new_with
decreases-new_with l = let n : ℕ = 32 - l.x.now.place.steps in n + n

-- ---- new_behind
abbrev pub invariant-new_behind-loop-b : goal.invariant-new_behind-loop-b
invariant-new_behind-loop-b l =
    Kept l.frame.cut l.initial.lent l.lent × Still l.setup.program.code l.setup.program.lengths l.setup.program.class l.frame l.x (take l.frame.cut l.initial.lent) l.initial.lent l.lent l.b
