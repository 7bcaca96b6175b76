-- One line for each way through `carried_out`.
use Rattle.std.proofs.Common.{arith}
use Rattle.machine_local.proofs.HeldRows.{carried_assign, carried_add, carried_skip, carried_assert, carried_skip_at_most, carried_assert_at_most, carried_other}
use Rattle.machine_local.proofs.own.carried_out.Goals as goal

pub returns-in-32 : goal.returns-in-32
returns-in-32 c = carried_assign c.args.code.now c.args.row c.requires c.args.registers c.assigned.result c.operand_at-p.result c.operand_at-p.ensures c.in-32.is c.assigned.ensures

pub returns-in-33 : goal.returns-in-33
returns-in-33 c = carried_add c.args.code.now c.args.row c.requires c.args.registers c.added.result c.operand_at-p.result c.operand_at-p.ensures c.in-33.is c.added.ensures

pub returns-in-34 : goal.returns-in-34
returns-in-34 c = carried_skip c.args.code.now c.args.row c.requires c.args.registers c.skipping.result c.operand_at-p.result c.operand_at-p.ensures c.in-34.is c.skipping.ensures

pub returns-in-35 : goal.returns-in-35
returns-in-35 c = carried_assert c.args.code.now c.args.row c.requires c.args.registers c.asserted.result c.operand_at-p.result c.operand_at-p.ensures c.in-35.is c.asserted.ensures

pub returns-in-36 : goal.returns-in-36
returns-in-36 c =
    carried_skip_at_most c.args.code.now c.args.row c.requires c.args.registers c.skipping-in-36.result c.operand_at-p.result c.operand_at-p.ensures c.in-36.is c.skipping-in-36.ensures

pub returns-in-37 : goal.returns-in-37
returns-in-37 c =
    carried_assert_at_most c.args.code.now c.args.row c.requires c.args.registers c.asserted-in-37.result c.operand_at-p.result c.operand_at-p.ensures c.in-37.is c.asserted-in-37.ensures

pub returns-in_default : goal.returns-in_default
returns-in_default c =
    carried_other c.args.code.now c.args.row c.requires c.args.registers c.asserted-in_default.result
    (λ e. omega (arith, e)) (λ e. omega (arith, e)) (λ e. omega (arith, e)) (λ e. omega (arith, e)) (λ e. omega (arith, e)) (λ e. omega (arith, e))
    c.operand_at.result c.operand_at.ensures c.asserted-in_default.ensures
