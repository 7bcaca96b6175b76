-- `behind` copies the first 48 bytes.
use Rattle.listing_cursor.proofs.CursorLaws.{bytes_kept, from_behind}
use Rattle.listing_cursor.proofs.cursor.behind.Goals as goal

pub returns : goal.returns
returns c list most = from_behind list most c.args.schedule.now _ (bytes_kept c.args.schedule.now c.copy_from_slice.new.self _ c.min-steps.result c.min-steps.ensures c.copy_from_slice.ensures.after)
