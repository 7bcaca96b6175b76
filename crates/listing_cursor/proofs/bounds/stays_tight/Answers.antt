-- `stays_tight` compares the bound's next byte with the step.
use Rattle.listing_cursor.proofs.BoundSteps.{past_tight, past_end, past_apart}
use Rattle.listing_cursor.proofs.bounds.stays_tight.Goals.{else-tight-via-then-tight+else-k-bound, else-tight-via-else-tight}
use Rattle.listing_cursor.proofs.bounds.stays_tight.Goals as goal

pub returns-then-k-bound : goal.returns-then-k-bound
returns-then-k-bound c = let a = c.args in rw c.if-tight.true (past_tight a.bound.now a.k a.t c.if-k-bound.true)

pub returns : goal.returns
returns c =
    let a = c.args in
    elim c.else-tight.branch [
      | else-tight-via-then-tight+else-k-bound w ↦ rw w.if-tight.true (past_end a.bound.now a.k a.t w.if-k-bound.false)
      | else-tight-via-else-tight w ↦ rw w.if-tight.false (past_apart a.bound.now a.k a.t)
    ]
