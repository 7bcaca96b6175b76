-- `put_row` writes the number and the flag, then the steps, then zeros.
use Rattle.std.proofs.Common.{rules}
use Rattle.listing_cursor.proofs.RowBytes.{row_written}
use Rattle.listing_cursor.proofs.putting.put_row.Goals as goal

pub returns : goal.returns
returns c =
    let a = c.args in
    let pre = c.requires in
    row_written a.width a.steps.now a.fails pre.0 a.out.now _ _ _ pre.2 c.choose.ensures c.copy_from_slice.ensures.after (c.fill.ensures.after (search rules))
