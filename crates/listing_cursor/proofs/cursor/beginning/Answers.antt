-- `beginning` stands before the first.
use Rattle.std.proofs.Common.{refl}
use Rattle.listing_cursor.specs.Cursor.{from}
use Rattle.listing_cursor.proofs.cursor.beginning.Goals as goal

pub returns : goal.returns
unfolding from
returns c l = refl
