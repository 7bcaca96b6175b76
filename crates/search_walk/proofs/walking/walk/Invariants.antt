-- `walk` tries the first threads one after the other. The invariant: what the threads from t on add completes the whole.
use Rattle.std.proofs.Common.{◌≤◌, ◌≡◌, length}
use Rattle.listing_cursor.specs.Bounds.{bound_at}
use Rattle.search_walk.proofs.WalkLoop.{Rest}
use Rattle.search_walk.proofs.walking.walk.Given as goal

abbrev pub invariant-loop-t : goal.invariant-loop-t
invariant-loop-t l =
    (l.n ≤ l.a.room) × (length l.out ≡ length l.initial.out) × Rest l.program.code l.program.lengths l.program.class l.a.failures l.x (bound_at l.a.tight l.bound l.x.steps) l.initial.out l.a.room l.a.rows l.out l.n l.t
