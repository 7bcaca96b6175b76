-- `with_location` adds the location's bit where it is not there yet.
use Rattle.std.proofs.Common.{sym, ◌∙◌, arith}
use Rattle.search_rules.proofs.WhatIsLeft.{joined_out, joined_power, joined_fits}
use Rattle.theory_sc.proofs.Sets.{joined_there}
use Rattle.search_rules.proofs.leaving.with_location.Goals.{then-l-ge8-via-then-l-ge8, then-l-ge8-via-else-l-ge8+then-is_in}
use Rattle.search_rules.proofs.leaving.with_location.Goals as goal

pub returns-then-l-ge8 : goal.returns-then-l-ge8
returns-then-l-ge8 c = elim c.then-l-ge8.branch [
  | then-l-ge8-via-then-l-ge8 w ↦ joined_out c.args.l c.args.set w.if-l-ge8.true (omega arith)
  | then-l-ge8-via-else-l-ge8+then-is_in w ↦ sym (joined_there c.args.l c.args.set w.if-l-ge8.false (omega arith) (sym w.is_in.ensures ∙ w.if-is_in.true))
]

pub overflow_add-result : goal.overflow_add-result
overflow_add-result c = record { fits = joined_fits c.args.l c.args.set c.if-l-ge8.false (omega arith) (sym c.is_in.ensures ∙ c.if-is_in.false) }

pub returns : goal.returns
returns c = joined_power c.args.l c.args.set c.if-l-ge8.false (omega arith) (sym c.is_in.ensures ∙ c.if-is_in.false)
