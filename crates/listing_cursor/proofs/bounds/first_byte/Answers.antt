-- `first_byte` reads the bound's next byte while the steps are its own.
use Rattle.std.proofs.Common.{sym}
use Rattle.listing_cursor.proofs.BoundSteps.{low_tight, low_end, low_apart}
use Rattle.listing_cursor.proofs.bounds.first_byte.Goals.{else-tight-via-then-tight+else-k-bound, else-tight-via-else-tight}
use Rattle.listing_cursor.proofs.bounds.first_byte.Goals as goal

pub returns-then-k-bound : goal.returns-then-k-bound
returns-then-k-bound c = let a = c.args in rw c.if-tight.true (sym (low_tight a.bound.now a.k c.if-k-bound.true))

pub returns : goal.returns
returns c =
    let a = c.args in
    elim c.else-tight.branch [
      | else-tight-via-then-tight+else-k-bound w ↦ rw w.if-tight.true (sym (low_end a.bound.now a.k w.if-k-bound.false))
      | else-tight-via-else-tight w ↦ rw w.if-tight.false (sym (low_apart a.bound.now a.k))
    ]
