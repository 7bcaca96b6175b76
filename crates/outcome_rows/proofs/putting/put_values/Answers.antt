use Rattle.std.proofs.Common.{arith, ◌∙◌}
use Rattle.spec_outcomes.specs.OutcomesCall.{four_bytes}
use Rattle.outcome_rows.proofs.Values.{values_none, value_more, values_all}
use Rattle.outcome_rows.proofs.putting.put_values.Goals as goal

pub loop-k-init : goal.loop-k-init
loop-k-init c = values_none c.args.memory.now c.args.out.now

pub loop-k-preserved : goal.loop-k-preserved
unfolding four_bytes
loop-k-preserved c =
    let a = c.args in
    let loop = c.loop-k in
    value_more a.memory.now a.out.now loop.out _ loop.k _ c.told-memory c.loop-k-test.true (omega arith) loop.invariant (c.copy_from_slice.ensures.after ∙ c.to_be_bytes.ensures)

pub returns : goal.returns
returns c =
    let a = c.args in
    values_all a.memory.now a.out.now c.loop-k.out c.loop-k.k c.told-memory c.loop-k-test.false c.loop-k.invariant
