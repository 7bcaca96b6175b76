-- `visit`, `turns` and `behind` call each other, with one step fewer left each time round. The invariant of `turns`: what the steps from b on give
-- completes the whole, and the table stays true.
use Rattle.std.proofs.Common.{ℕ, ◌<◌, ◌-◌, ◌+◌, ◌^◌, ◌≡◌, length}
use Rattle.tso_states.proofs.Numbered.{Rest}
use Rattle.tso_states.proofs.counting.+behind_turns_visit.Given as goal

abbrev pub decreases-behind : goal.decreases-behind
decreases-behind l = let n : ℕ = 32 - l.x.now.place.steps in n + n + n + 2

abbrev pub decreases-turns : goal.decreases-turns
decreases-turns l = let n : ℕ = 32 - l.x.now.place.steps in n + n + n + 1

abbrev pub decreases-visit : goal.decreases-visit
decreases-visit l = let n : ℕ = 32 - l.x.now.place.steps in n + n + n

-- ---- turns
abbrev pub invariant-turns-loop-b : goal.invariant-turns-loop-b
invariant-turns-loop-b l =
    (length l.table ≡ length l.initial.table) × (l.sum.listed < 2 ^ 64) × (l.sum.failing < 2 ^ 64) × Rest l.setup.program.code l.setup.program.lengths l.setup.program.class l.shape.width l.shape.slots l.x l.initial.table l.table l.sum.listed l.sum.failing l.b
