-- One line for each way through `accessed_at`.
use Rattle.std.proofs.Common.{arith, ◌∙◌, eq-eqb, ne_eqb}
use Rattle.file_rows.proofs.Rows.{row_store, row_load, row_fetch_add, row_compare_swap}
use Rattle.spec_sc.specs.Local.{access_place, access_takes, access_puts, access_sets}
use Rattle.spec_sc.specs.Actions.{given}
use Rattle.machine_access.proofs.HeldRows.{access_none, load_writes}
use Rattle.machine_access.proofs.by_row.accessed_at.Goals as goal

pub returns-then-b-eq16 : goal.returns-then-b-eq16
unfolding access_place access_takes access_puts access_sets given
returns-then-b-eq16 c = rw (row_store c.args.code.now c.args.row c.requires c.if-b-eq16.true, c.writing.ensures, c.quiet.ensures, c.value-v.ensures, c.operand_at.ensures)

pub returns-in-17 : goal.returns-in-17
unfolding access_place access_takes access_puts access_sets given
returns-in-17 c = rw (row_load c.args.code.now c.args.row c.requires c.in-17.is, c.quiet-load.ensures, c.with_at.ensures, c.wide.ensures.same, c.found-x.ensures)

pub returns-in-18 : goal.returns-in-18
unfolding access_place access_takes access_puts access_sets given
returns-in-18 c = rw (row_fetch_add c.args.code.now c.args.row c.requires c.in-18.is, c.adding.ensures, c.quiet-load.ensures, c.value.ensures, c.operand_at-in-18.ensures, c.with_at.ensures, c.wide.ensures.same, c.found-x.ensures) (load_writes _ _ _ _)

pub returns-then-x-value : goal.returns-then-x-value
unfolding access_place access_takes access_puts access_sets given
returns-then-x-value c =
    let equal = simp (c.value-in-19.ensures, c.operand_at-in-19.ensures, c.found-x.ensures) at c.if-x-value.true in
    rw (row_compare_swap c.args.code.now c.args.row c.requires c.in-19.is, c.writing-then-x-value.ensures, c.quiet-load.ensures, c.value-then-x-value.ensures, c.operand_at-then-x-value.ensures, c.with_at.ensures, c.wide.ensures.same, c.found-x.ensures, eq-eqb _ _ equal)

pub returns-else-x-value : goal.returns-else-x-value
unfolding access_place access_takes access_puts access_sets given
returns-else-x-value c =
    let other = simp (c.value-in-19.ensures, c.operand_at-in-19.ensures, c.found-x.ensures) at c.if-x-value.false in
    rw (row_compare_swap c.args.code.now c.args.row c.requires c.in-19.is, c.quiet-load.ensures, c.with_at.ensures, c.wide.ensures.same, c.found-x.ensures, ne_eqb _ _ other)

pub returns-in_default : goal.returns-in_default
returns-in_default c =
    c.quiet-in_default.ensures
    ∙ access_none c.args.code.now c.args.row c.requires (λ e. omega (arith, e)) (λ e. omega (arith, e)) (λ e. omega (arith, e)) (λ e. omega (arith, e)) c.args.registers c.args.memory
