-- `visit` and `walk` call each other, with one step fewer left each time round. `walk`'s invariant: what the bytes from b on add completes
-- the whole.
use Rattle.std.proofs.Common.{◌-◌, ◌≡◌, ◌≤◌, length, ◌+◌}
use Rattle.listing_cursor.specs.Bounds.{bound_at}
use Rattle.tso_walk.proofs.WalkLoop.{Rest}
use Rattle.tso_walk.proofs.walking.+visit_walk.Given as goal

abbrev pub decreases-visit : goal.decreases-visit
decreases-visit l = (32 - l.x.now.steps) + (32 - l.x.now.steps)

abbrev pub decreases-walk : goal.decreases-walk
decreases-walk l = (32 - l.x.now.steps) + (32 - l.x.now.steps) + 1

abbrev pub invariant-walk-loop-b : goal.invariant-walk-loop-b
invariant-walk-loop-b l = (l.n ≤ l.a.room) × (length l.out ≡ length l.initial.out)
    × Rest l.program.code l.program.lengths l.program.class l.a.failures l.x (bound_at l.a.tight l.bound l.x.steps) l.initial.out l.a.room l.a.rows l.out l.n l.b
