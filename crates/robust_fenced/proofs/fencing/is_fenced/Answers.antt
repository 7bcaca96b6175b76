use Rattle.std.proofs.Common.{rules, arith}
use mathlib.Core.Bool.{false≢true}
use Rattle.tso_replay.proofs.Admitted.{all_few}
use Rattle.robust_fenced.proofs.Passing.{below_next, below_all}
use Rattle.robust_fenced.proofs.fencing.is_fenced.Goals as goal

pub loop-t-init : goal.loop-t-init
loop-t-init c = (omega arith, λ u l. absurd (omega (arith, l)))

pub offset_bounds-program-t : goal.offset_bounds-program-t
offset_bounds-program-t c =
    let few = (all_few c.args.program.now.code c.args.program.now.lengths c.args.program.now.threads c.requires.0 c.requires.1).0 in
    search rules

pub bounds-program-t : goal.bounds-program-t
bounds-program-t c =
    let few = (all_few c.args.program.now.code c.args.program.now.lengths c.args.program.now.threads c.requires.0 c.requires.1).0 in
    search rules

pub is_fenced_thread-requires : goal.is_fenced_thread-requires
is_fenced_thread-requires c =
    let few = all_few c.args.program.now.code c.args.program.now.lengths c.args.program.now.threads c.requires.0 c.requires.1 in
    let below = c.loop-t-test.true in
    (omega (arith, few.0, below), few.1 c.loop-t.t below)

pub returns-then-not-is_fenced_thread : goal.returns-then-not-is_fenced_thread
returns-then-not-is_fenced_thread c = λ p loaded e. absurd (false≢true e)

pub loop-t-preserved : goal.loop-t-preserved
loop-t-preserved c =
    let args = c.args in
    let loop = c.loop-t in
    (search rules, below_next args.program.now.code args.program.now.lengths loop.t loop.invariant.1 (c.is_fenced_thread.ensures c.if-not-is_fenced_thread.false))

pub returns : goal.returns
returns c =
    let args = c.args in
    λ p loaded e. below_all args.program.now.code args.program.now.lengths args.program.now.threads p loaded c.loop-t.t (omega (arith, c.loop-t-test.false)) c.loop-t.invariant.1
