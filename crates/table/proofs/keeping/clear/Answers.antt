use Rattle.std.proofs.Common.{◌≡◌, length, replicate, rules}
use Rattle.table.proofs.Slot.{said_zeros}
use Rattle.table.proofs.keeping.clear.Goals as goal

pub returns-clause-nothing : goal.returns-clause-nothing
returns-clause-nothing c =
    let zeros : c.fill.new.self ≡ replicate (length c.args.table.now) 0 = search rules in
    λ at width key. rw (zeros) (said_zeros (length c.args.table.now) at width key)
