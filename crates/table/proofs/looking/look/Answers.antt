-- `look` by its four tests.
use Rattle.std.proofs.Common.{◌≡◌, ◌+◌, length, leb, true, sym, ◌∙◌, rules, arith, leb-true, eqb-true}
use lib.ListN.{get_or-eq_default}
use Rattle.table.proofs.Slot.{said_unmarked, said_outside, said_other, said_found}
use Rattle.table.proofs.looking.look.Goals as goal
use Rattle.table.proofs.looking.look.Goals.{then-is_empty-via-then-is_empty, then-is_empty-via-else-is_empty+then-key-eq0, then-is_empty-via-else-is_empty+else-key-eq0+then-not-fits, then-is_empty-via-else-is_empty+else-key-eq0+else-not-fits+then-not-holds}

pub returns-then-is_empty : goal.returns-then-is_empty
returns-then-is_empty c =
    let a = c.args in
    elim c.then-is_empty.branch [
      | then-is_empty-via-then-is_empty w ↦ (sym (said_unmarked a.at a.width a.table.now a.key.now (get_or-eq_default a.key.now 0 {n = 0} (omega (arith, eqb-true _ _ (sym c.is_empty.ensures ∙ w.if-is_empty.true))))), tt)
      | then-is_empty-via-else-is_empty+then-key-eq0 w ↦ (sym (said_unmarked a.at a.width a.table.now a.key.now w.if-key-eq0.true), tt)
      | then-is_empty-via-else-is_empty+else-key-eq0+then-not-fits w ↦ (sym (said_outside a.at a.width a.table.now a.key.now (search rules)), tt)
      | then-is_empty-via-else-is_empty+else-key-eq0+else-not-fits+then-not-holds w ↦ (sym (said_other a.at a.width a.table.now a.key.now (search rules)), tt)
    ]

pub returns : goal.returns
returns c =
    let a = c.args in
    let fits : leb (a.at + (length a.key.now + a.width)) (length a.table.now) ≡ true = search rules in
    (sym (said_found a.at a.width a.table.now a.key.now c.if-key-eq0.false fits (search rules)), omega (arith, leb-true _ _ fits))
