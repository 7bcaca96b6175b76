use Rattle.std.proofs.Common.{◌≡◌, sym, ap, ◌∙◌, arith, rules}
use Rattle.machine_access.specs.Counted.{accesses_below}
use Rattle.machine_access.proofs.HeldCounting.{below_none, below_next}
use Rattle.machine_access.proofs.counting.accesses_below.Goals as goal

pub loop-t-init : goal.loop-t-init
loop-t-init c = (omega arith, omega arith, sym (below_none c.args.code.now c.args.lengths.now))

pub accesses_in-count-requires : goal.accesses_in-count-requires
accesses_in-count-requires c =
    let pre = c.requires in
    let below = c.loop-t-test.true in
    (omega (arith, pre.0, below), pre.1 c.loop-t.t below)

pub loop-t-preserved : goal.loop-t-preserved
loop-t-preserved c =
    let args = c.args in
    let loop = c.loop-t in
    let counted = c.accesses_in-count.ensures in
    (search rules, omega (arith, loop.invariant.1, counted.few), omega (arith, loop.invariant.2, counted.count, below_next args.code.now args.lengths.now loop.t))

pub returns : goal.returns
returns c =
    let args = c.args in
    let loop = c.loop-t in
    let e : loop.t ≡ args.n = omega (arith, loop.invariant.0, c.loop-t-test.false) in
    record { count = loop.invariant.2 ∙ ap (accesses_below args.code.now args.lengths.now) e; few = search rules }
