-- `step` makes the step where the place lies, and asks who is late behind it. The loop's invariant: the late ones before w.
use Rattle.std.proofs.Common.{ℕ, ◌≤◌}
use Rattle.spec_sc.specs.Actions.{Action}
use Rattle.machine.specs.declared.stepping.Moved.{Moved}
use Rattle.search_place.proofs.LateLoop.{LateBelow}
use Rattle.search_place.proofs.ReachedStep.{Short}
use Rattle.search_place.proofs.stepping.step.Given as goal

-- the step of t that gave back m, as an action
abbrev pub did : ℕ → Moved → Action
did t m = record { thread = t; location = m.location; wrote = m.wrote }

abbrev pub invariant-loop-w : goal.invariant-loop-w
invariant-loop-w l =
    (l.w ≤ l.w-end) × (l.w-end ≤ 6) × Short l.program.lengths l.x.threads × LateBelow l.program.code l.program.lengths l.x.threads l.m.memory l.x.late (did l.t l.m) l.late l.w
