-- `covers` lends itself a scratch.
use Rattle.covers.proofs.covers_call.covers.Goals as goal

pub returns : goal.returns
returns c = let r = c.covers_with.ensures in (r.0, r.1, r.2, r.3)
