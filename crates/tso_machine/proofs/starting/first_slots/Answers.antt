use Rattle.std.proofs.Common.{arith, ap, ◌∙◌, length-set}
use Rattle.machine_access.specs.Counted.{accesses_below}
use Rattle.tso_machine.proofs.HeldFirst.{first_more, first_short}
use Rattle.tso_machine.proofs.starting.first_slots.Goals as goal

pub accesses_below-requires : goal.accesses_below-requires
accesses_below-requires c = (omega arith, λ u h. first_short c.requires.1 c.min.result c.loop-t.t u c.min.ensures h)

pub loop-t-preserved : goal.loop-t-preserved
loop-t-preserved c = (
  omega (arith, c.loop-t-test.true),
  length-set c.loop-t.first c.loop-t.t _ ∙ c.loop-t.invariant.1,
  first_more c.args.program.now.code c.args.program.now.lengths c.args.program.now.threads c.loop-t.first c.loop-t.t _ c.loop-t.invariant.1 c.loop-t-test.true
      (c.accesses_below.ensures.count ∙ ap (accesses_below c.args.program.now.code c.args.program.now.lengths) c.min.ensures) c.loop-t.invariant.2,
)
