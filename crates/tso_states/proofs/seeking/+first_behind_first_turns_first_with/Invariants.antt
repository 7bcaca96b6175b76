-- `first_with`, `first_turns` and `first_behind` call each other, with one step fewer left each time round. The invariant of `first_turns`: none with a
-- step before b is the first, and the marks stay true.
use Rattle.std.proofs.Common.{ℕ, ◌-◌, ◌+◌, ◌≡◌, length}
use Rattle.tso_states.proofs.FirstFound.{Left}
use Rattle.tso_states.proofs.seeking.+first_behind_first_turns_first_with.Given as goal

abbrev pub decreases-first_behind : goal.decreases-first_behind
decreases-first_behind l = let n : ℕ = 32 - l.x.now.place.steps in n + n + n + 2

abbrev pub decreases-first_turns : goal.decreases-first_turns
decreases-first_turns l = let n : ℕ = 32 - l.x.now.place.steps in n + n + n + 1

abbrev pub decreases-first_with : goal.decreases-first_with
decreases-first_with l = let n : ℕ = 32 - l.x.now.place.steps in n + n + n

-- ---- first_turns
abbrev pub invariant-first_turns-loop-b : goal.invariant-first_turns-loop-b
invariant-first_turns-loop-b l =
    (length l.table ≡ length l.initial.table) × Left l.setup.program.code l.setup.program.lengths l.setup.program.class l.shape.width l.shape.slots l.x l.initial.table l.table l.b
