-- One line for each first byte of an access that could write, and one for the others.
use Rattle.std.proofs.Common.{arith, inl, inr}
use Rattle.search_place.proofs.RowAccess.{writer_store, writer_fetch_add, writer_compare_swap, writer_none}
use Rattle.search_place.proofs.waiting.is_writer.Goals as goal

pub returns-in-16 : goal.returns-in-16
returns-in-16 c = elim c.in-16.is [
  | inl e ↦ writer_store c.args.code.now c.args.row c.requires e
  | inr e ↦ writer_compare_swap c.args.code.now c.args.row c.requires e
]

pub returns-in-18 : goal.returns-in-18
returns-in-18 c =
    let operand = c.operand_at in
    writer_fetch_add c.args.code.now c.args.row c.requires c.in-18.is operand.result operand.ensures c.could_add.result c.could_add.ensures

pub returns-in_default : goal.returns-in_default
returns-in_default c = let h = c.in_default in writer_none c.args.code.now c.args.row c.requires (λ e. grind (arith, e)) (λ e. grind (arith, e)) (λ e. grind (arith, e))
