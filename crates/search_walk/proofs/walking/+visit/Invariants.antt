-- `visit` makes the step in its copy of the place, and tries the next threads one after the other. The invariant: what the threads from z on add
-- completes the whole.
use Rattle.std.proofs.Common.{◌≤◌, ◌-◌, ◌≡◌, length}
use Rattle.listing_cursor.specs.Bounds.{bound_at}
use Rattle.search_walk.proofs.WalkLoop.{Rest}
use Rattle.search_walk.proofs.walking.+visit.Given as goal

abbrev pub decreases-visit : goal.decreases-visit
decreases-visit l = 24 - l.x.steps

abbrev pub invariant-loop-z : goal.invariant-loop-z
invariant-loop-z l =
    (l.b.failures ≡ l.initial.b.failures) × (l.b.tight ≡ l.initial.b.tight) × (l.b.room ≡ l.initial.b.room) × (l.b.rows ≤ l.initial.b.room) × (length l.out ≡ length l.initial.out)
    × Rest l.program.code l.program.lengths l.program.class l.initial.b.failures l.x (bound_at l.initial.b.tight l.bound l.x.steps) l.initial.out l.initial.b.room l.initial.b.rows l.out l.b.rows l.z
