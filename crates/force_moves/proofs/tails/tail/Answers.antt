use Rattle.std.proofs.Common.{arith}
use Rattle.force_moves.proofs.TailLaws.{clear_end, clear_on, clear_more}
use Rattle.force_moves.proofs.tails.tail.Goals as goal

pub loop-k-init : goal.loop-k-init
loop-k-init c = clear_end c.args.code.now c.args.t c.args.n

pub returns-then-not-is_harmless : goal.returns-then-not-is_harmless
returns-then-not-is_harmless c =
    let args = c.args in
    let loop = c.loop-k in
    λ i b. clear_on args.code.now args.t args.n loop.k i loop.invariant (omega (arith, b, c.loop-k-test.true))

pub loop-k-preserved : goal.loop-k-preserved
loop-k-preserved c =
    let args = c.args in
    let loop = c.loop-k in
    clear_more args.code.now args.t args.n loop.k c.loop-k-test.true loop.auto.k loop.invariant (c.is_harmless.ensures c.if-not-is_harmless.false)

pub returns : goal.returns
returns c =
    let args = c.args in
    let loop = c.loop-k in
    λ i b. clear_on args.code.now args.t args.n loop.k i loop.invariant (omega (arith, c.loop-k-test.false))
