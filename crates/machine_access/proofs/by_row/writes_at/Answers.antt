-- One line for each way through `writes_at`.
use Rattle.std.proofs.Common.{arith}
use Rattle.machine_access.proofs.HeldRows.{writes_store, writes_fetch_add, writes_swap, writes_none}
use Rattle.machine_access.proofs.by_row.writes_at.Goals as goal

pub returns-in-16 : goal.returns-in-16
returns-in-16 c =
    let a = c.args in
    writes_store a.code.now a.row c.requires a.registers a.memory c.in-16.is

pub returns-in-18 : goal.returns-in-18
returns-in-18 c =
    let a = c.args in
    rw (c.value.ensures, c.operand_at.ensures)
    (writes_fetch_add a.code.now a.row c.requires a.registers a.memory c.in-18.is)

pub returns-in-19 : goal.returns-in-19
returns-in-19 c =
    let a = c.args in
    rw (c.value-in-19.ensures, c.operand_at-in-19.ensures, c.found.ensures)
    (writes_swap a.code.now a.row c.requires a.registers a.memory c.in-19.is)

pub returns-in_default : goal.returns-in_default
returns-in_default c =
    let a = c.args in
    writes_none a.code.now a.row c.requires a.registers a.memory (λ e. omega (arith, e)) (λ e. omega (arith, e)) (λ e. omega (arith, e))
