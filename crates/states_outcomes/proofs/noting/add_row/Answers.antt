-- `add_row` writes one row behind those that are known.
use Rattle.std.proofs.Common.{rules, ◌+◌, ◌*◌, ◌≤◌, ◌≡◌, arith, length, take, length-take-le}
use Rattle.states_outcomes.proofs.RowLists.{row_adds}
use Rattle.states_outcomes.proofs.noting.add_row.Goals as goal

pub returns-clause-row : goal.returns-clause-row
returns-clause-row c =
    let a = c.args in
    let eight : length a.memory ≡ 8 = search rules in
    let fits : 9 * a.frame.known + 9 ≤ length (take a.frame.cut a.lent.now) = omega (arith, c.if-frame-known-lt9.false, c.requires.0, length-take-le a.frame.cut a.lent.now c.requires.1) in
    row_adds (take a.frame.cut a.lent.now) a.frame.known (record { memory = a.memory; fails = a.failed }) eight fits _ c.note.ensures.row
