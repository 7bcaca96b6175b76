-- `permutation_table` gives the list of permutations: the table, as the code has it, passes the one test.
use Rattle.std.proofs.Common.{◌≡◌, refl, true}
use Rattle.spec_schedules.specs.Lists.{both, any, all}
use Rattle.spec_schedules.specs.Order.{less}
use Rattle.spec_schedules.specs.Permutations.{unpacked}
use Rattle.spec_schedules.proofs.Numbered.{distinctb, permutationb}
use Rattle.spec_schedules.proofs.Packed.{rises, right_table, table_is}
use Rattle.class_size.proofs.by_number.permutation_table.Reads as reads
use Rattle.class_size.proofs.by_number.permutation_table.Lts as lts
use Rattle.class_size.proofs.by_number.permutation_table.Goals as goal

pub returns : goal.returns
unfolding both any all less unpacked distinctb permutationb rises right_table
returns c =
    let table = (lts.m2 reads.Pre reads.Post c.args).0 in
    let right : right_table table ≡ true = refl in
    table_is table right
