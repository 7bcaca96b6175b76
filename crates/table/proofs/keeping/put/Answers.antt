-- `put` writes the key and behind it the entry.
use Rattle.std.proofs.Common.{rules}
use Rattle.table.proofs.Entry.{put_written}
use Rattle.table.proofs.keeping.put.Goals as goal

pub returns : goal.returns
returns c =
    let a = c.args in
    put_written a.at a.key.now a.entry.now a.table.now c.write.new.table c.write-2.new.table (search rules) c.write.ensures c.write-2.ensures
