-- `permutation` takes apart the row of its number.
use Rattle.std.proofs.Common.{◌∙◌}
use Rattle.spec_schedules.proofs.Packed.{row_is}
use Rattle.class_size.proofs.by_number.permutation.Goals as goal

pub returns : goal.returns
returns c =
    let table = c.permutation_table-table in
    c.unpacked.ensures ∙ row_is table.result table.ensures c.args.k
